-- What calls one after another make of a home and a store, and of what causes a refusal.
use Rattle.std.specs.Prelude.{◌≡◌, ℕ, zero, suc}
use Rattle.std.proofs.Common.{refl, sym, subst, inl, inr}
use Rattle.rc_position.specs.declared.positions.Pos.{Pos}
use Rattle.rc_position.specs.Position.{pos_cmp}
use Rattle.rc_stream.specs.declared.holding.Held.{Held}
use Rattle.rc_stream.specs.declared.merges.Merge.{Merge}
use Rattle.rc_stream.specs.declared.parts.Peeked.{Peeked}
use Rattle.rc_stream.specs.declared.holding.Step.{Step}
use Rattle.rc_stream.specs.declared.holding.Step.TheVariants as step
use Rattle.rc_stream.specs.declared.holding.Turn.{Turn}
use Rattle.rc_stream.specs.declared.holding.Turn.TheVariants as turn
use Rattle.rc_stream.specs.Both.{MaySeekBoth}
use Rattle.rc_stream.specs.Merging.{place_of}
use Rattle.rc_stream.specs.Places.{Reaches}
use Rattle.rc_stream.specs.Holding.{IsFrom}
use Rattle.rc_stream.specs.calls.Holding.{TakesTurn, StepReaches}
use Rattle.rc_stream.specs.Moving.{Either, Keeps, MaySeek, Moved, Moves, Once}
use Rattle.rc_stream.specs.laws.Says.{le_le}

same-states : {H W : Type 0} (P : H → W → Type 0) (h g : H) (w v : W) → h ≡ g → w ≡ v → P h w → P g v
same-states P h g w v e f p = subst (λ u. P g u) f (subst (λ k. P k w) e p)

pub once-ours : {H W : Type 0} (P Q : H → W → H → W → Type 0) (h : H) (w : W) (g : H) (v : W) → Once P h w g v → Moved P Q h w g v
once-ours P Q h w g v (inl e) = (zero, e)
once-ours P Q h w g v (inr m) = (suc zero, (g, v, inl m, (refl, refl)))

pub once-theirs : {H W : Type 0} (P Q : H → W → H → W → Type 0) (h : H) (w : W) (g : H) (v : W) → Once Q h w g v → Moved P Q h w g v
once-theirs P Q h w g v (inl e) = (zero, e)
once-theirs P Q h w g v (inr m) = (suc zero, (g, v, inr m, (refl, refl)))

more : {H W : Type 0} (P Q : H → W → H → W → Type 0) (n : ℕ) (h : H) (w : W) (g : H) (v : W) (k : H) (u : W) → Moves (Either P Q) n h w g v → Moved P Q g v k u → Moved P Q h w k u
more P Q zero h w g v k u m r = same-states (λ a b. Moved P Q a b k u) g h v w (sym m.0) (sym m.1) r
more P Q (suc n) h w g v k u m r = let s = more P Q n m.0 m.1 g v k u m.3 r in (suc s.0, (m.0, m.1, m.2, s.1))

pub moved-moved : {H W : Type 0} (P Q : H → W → H → W → Type 0) (h : H) (w : W) (g : H) (v : W) (k : H) (u : W) → Moved P Q h w g v → Moved P Q g v k u → Moved P Q h w k u
moved-moved P Q h w g v k u m r = more P Q m.0 h w g v k u m.1 r

-- a part stands on where the other was called
pub once-keeps : {H W X : Type 0} (P : H → W → H → W → Type 0) (stands : X → H → W → Type 0) (x : X) (h : H) (w : W) (g : H) (v : W) → Keeps P stands → Once P h w g v → stands x h w → stands x g v
once-keeps P stands x h w g v keeps (inl e) s = same-states (stands x) h g w v e.0 e.1 s
once-keeps P stands x h w g v keeps (inr m) s = keeps x h w g v m s

-- ---- from where both go on after a step

pub does-ours : (r : Turn) (s : Step) (o t o' t' : Held) → TakesTurn r s o t o' t' → (x : Pos) → StepReaches s x → IsFrom o'.look x → IsFrom o.look x
does-ours turn.Nobody s o t o' t' d x u h = subst (λ (z : Held). IsFrom z.look x) d.1 h
does-ours turn.Ours s o t o' t' d x u h = d.1.from x u h
does-ours turn.Theirs s o t o' t' d x u h = subst (λ (z : Held). IsFrom z.look x) d.1 h
does-ours turn.Both s o t o' t' d x u h = d.1.from x u h

pub does-theirs : (r : Turn) (s : Step) (o t o' t' : Held) → TakesTurn r s o t o' t' → (x : Pos) → StepReaches s x → IsFrom t'.look x → IsFrom t.look x
does-theirs turn.Nobody s o t o' t' d x u h = subst (λ (z : Held). IsFrom z.look x) d.2 h
does-theirs turn.Ours s o t o' t' d x u h = subst (λ (z : Held). IsFrom z.look x) d.2 h
does-theirs turn.Theirs s o t o' t' d x u h = d.2.from x u h
does-theirs turn.Both s o t o' t' d x u h = d.2.from x u h

-- a position behind one that is reached is reached
pub reaches-through : (p x y : Pos) → Reaches x y → Reaches p x → Reaches p y
reaches-through p x y r u = le_le p x y (pos_cmp p x) (pos_cmp x y) refl refl u r

pub reaches-on : (s : Step) (x y : Pos) → Reaches x y → StepReaches s x → StepReaches s y
reaches-on step.Nothing x y r u = tt
reaches-on step.Passed x y r u = tt
reaches-on (step.Given f) x y r u = reaches-through (place_of f).0 x y r u

-- what may be sought from x on may be sought from each later position on
pub may-later : {A : Type 0} (ahead : A → Pos → Type 0) (p : Peeked A) (x y : Pos) → Reaches x y → MaySeek ahead p x → MaySeek ahead p y
may-later ahead p x y r may z u from = may z (reaches-through x y z u r) from

pub both-later : {A B : Type 0} (ahead : A → Pos → Type 0) (ahead' : B → Pos → Type 0) (m : Merge A B) (x y : Pos) → Reaches x y → MaySeekBoth ahead ahead' m x → MaySeekBoth ahead ahead' m y
both-later ahead ahead' m x y r may = (may-later ahead m.ours x y r may.0, may-later ahead' m.theirs x y r may.1)
