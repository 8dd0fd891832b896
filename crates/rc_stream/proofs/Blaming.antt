-- What calls one after another name as damaged.
use Rattle.std.specs.Prelude.{ℕ, Result, Ok, Err, IfErr}
use Rattle.std.proofs.Common.{inl, inr}
use Rattle.rc_stream.specs.declared.streams.StreamErr.{StreamErr}
use Rattle.rc_stream.specs.declared.streams.StreamErr.TheVariants.{Fault, Damaged, NoMemory}
use Rattle.rc_stream.specs.Showing.{Blames, EitherSpot, IsNamed, FileSpots}

-- what is among some spots is among more of them
named-err : (P Q : FileSpots) → ((file offset : ℕ) → P file offset → Q file offset) → (e : StreamErr) → IsNamed P e → IsNamed Q e
named-err P Q more Fault h = tt
named-err P Q more (Damaged file offset) h = more file offset h
named-err P Q more NoMemory h = tt

named-more : {T : Type 0} (P Q : FileSpots) → ((file offset : ℕ) → P file offset → Q file offset) → (r : Result T StreamErr) → IfErr r (IsNamed P) → IfErr r (IsNamed Q)
named-more P Q more (Ok v) h = tt
named-more P Q more (Err e) h = named-err P Q more e h

-- no call
pub blames-none : {T : Type 0} (P : FileSpots) (r : Result T StreamErr) → IfErr r (IsNamed P) → Blames P P r
blames-none P r h = record { named = h; less = λ file offset p. p }

-- a call behind another one
pub blames-after : {T U : Type 0} (P Q R : FileSpots) (r : Result T StreamErr) (s : Result U StreamErr) → Blames P Q r → Blames Q R s → Blames P R s
blames-after P Q R r s b d = record { named = named-more Q P b.less s d.named; less = λ file offset p. b.less file offset (d.less file offset p) }

-- a call of the first of two, and of the second
pub blames-ours : {T : Type 0} (P P' Q : FileSpots) (r : Result T StreamErr) → Blames P P' r → Blames (EitherSpot P Q) (EitherSpot P' Q) r
blames-ours P P' Q r b = record { named = named-more P (EitherSpot P Q) (λ _ _ p. inl p) r b.named; less = less } where
  less : (file offset : ℕ) → EitherSpot P' Q file offset → EitherSpot P Q file offset
  less file offset (inl p) = inl (b.less file offset p)
  less file offset (inr q) = inr q

pub blames-theirs : {T : Type 0} (P Q Q' : FileSpots) (r : Result T StreamErr) → Blames Q Q' r → Blames (EitherSpot P Q) (EitherSpot P Q') r
blames-theirs P Q Q' r b = record { named = named-more Q (EitherSpot P Q) (λ _ _ q. inr q) r b.named; less = less } where
  less : (file offset : ℕ) → EitherSpot P Q' file offset → EitherSpot P Q file offset
  less file offset (inl p) = inl p
  less file offset (inr q) = inr (b.less file offset q)

-- the same of the whole
pub blames-err : {T U : Type 0} (P Q : FileSpots) (e : StreamErr) → Blames {T = T} P Q (Err e) → Blames {T = U} P Q (Err e)
blames-err P Q e b = record { named = b.named; less = b.less }

pub blames-ok : {T U : Type 0} (P Q : FileSpots) (r : Result T StreamErr) (v : U) → Blames P Q r → Blames P Q (Ok v)
blames-ok P Q r v b = record { named = tt; less = b.less }

pub blames-memory : {T U : Type 0} (P Q : FileSpots) (r : Result T StreamErr) → Blames P Q r → Blames {T = U} P Q (Err NoMemory)
blames-memory P Q r b = record { named = tt; less = b.less }

pub blames-later : {T U : Type 0} (P Q R : FileSpots) (e : StreamErr) → ((file offset : ℕ) → Q file offset → P file offset) → Blames {T = T} Q R (Err e) → Blames {T = U} P R (Err e)
blames-later P Q R e less b = record { named = named-err Q P less e b.named; less = λ file offset p. less file offset (b.less file offset p) }
