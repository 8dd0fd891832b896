-- What calls one after another make of a home and a store, and name as damaged.
use Rattle.std.specs.Prelude.{◌≡◌, ℕ, zero, suc, Ok, Err}
use Rattle.std.proofs.Common.{refl, sym, subst}
use Rattle.rc_stream.specs.declared.streams.StreamErr.{StreamErr}
use Rattle.rc_stream.specs.declared.streams.StreamErr.TheVariants.{Fault, Damaged, NoMemory}
use Rattle.rc_stream.specs.Moving.{Moves}
use Rattle.rc_stream.specs.Showing.{Blames, FileSpots, IsNamed}
use Rattle.rc_reader.specs.Steps.{MovedOn}

same-states : {H W : Type 0} (P : H → W → Type 0) (h g : H) (w v : W) → h ≡ g → w ≡ v → P h w → P g v
same-states P h g w v e f p = subst (λ u. P g u) f (subst (λ k. P k w) e p)

more : {H W : Type 0} (P : H → W → H → W → Type 0) (n : ℕ) (h : H) (w : W) (g : H) (v : W) (k : H) (u : W) → Moves P n h w g v → MovedOn P g v k u → MovedOn P h w k u
more P zero h w g v k u m r = same-states (λ a b. MovedOn P a b k u) g h v w (sym m.0) (sym m.1) r
more P (suc n) h w g v k u m r = let s = more P n m.0 m.1 g v k u m.3 r in (suc s.0, (m.0, m.1, m.2, s.1))

pub moved-none : {H W : Type 0} (P : H → W → H → W → Type 0) (h : H) (w : W) → MovedOn P h w h w
moved-none P h w = (zero, (refl, refl))

pub moved-one : {H W : Type 0} (P : H → W → H → W → Type 0) (h : H) (w : W) (g : H) (v : W) → P h w g v → MovedOn P h w g v
moved-one P h w g v m = (suc zero, (g, v, m, (refl, refl)))

pub moved-moved : {H W : Type 0} (P : H → W → H → W → Type 0) (h : H) (w : W) (g : H) (v : W) (k : H) (u : W) → MovedOn P h w g v → MovedOn P g v k u → MovedOn P h w k u
moved-moved P h w g v k u m r = more P m.0 h w g v k u m.1 r

named-on : (P Q : FileSpots) → ((file offset : ℕ) → P file offset → Q file offset) → (e : StreamErr) → IsNamed P e → IsNamed Q e
named-on P Q on Fault h = tt
named-on P Q on (Damaged file offset) h = on file offset h
named-on P Q on NoMemory h = tt

-- no call, or one that was answered, before a value or want of memory
pub blames-value : {T : Type 0} (P Q : FileSpots) (value : T) → ((file offset : ℕ) → Q file offset → P file offset) → Blames P Q (Ok value)
blames-value P Q value less = record { named = tt; less = less }

pub blames-memory : {T : Type 0} (P Q : FileSpots) → ((file offset : ℕ) → Q file offset → P file offset) → Blames {T = T} P Q (Err NoMemory)
blames-memory P Q less = record { named = tt; less = less }

-- a refused call behind others
pub blames-error : {T U : Type 0} (P Q R : FileSpots) (e : StreamErr) → ((file offset : ℕ) → Q file offset → P file offset) → Blames {T = T} Q R (Err e) → Blames {T = U} P R (Err e)
blames-error P Q R e less b = record { named = named-on Q P less e b.named; less = λ file offset r. less file offset (b.less file offset r) }
