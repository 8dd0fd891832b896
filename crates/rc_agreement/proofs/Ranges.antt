-- Range tombstones in order, from a place on.
use Rattle.std.specs.Prelude.{◌≡◌, Bool, true, false, not, cond, IsTrue, List, [], ◌∷◌, Option, Some, None}
use Rattle.std.proofs.Common.{refl, sym, ap, ◌∙◌, subst}
use Rattle.std.specs.Ordering.{is_lt}
use Rattle.rc_cell.specs.declared.writes.Tomb.{Tomb}
use Rattle.rc_position.specs.declared.positions.Pos.{Pos}
use Rattle.rc_position.specs.Position.{IsBefore, pos_cmp}
use Rattle.rc_ranges.specs.declared.pieces.Piece.{Piece}
use Rattle.rc_ranges.specs.Cover.{IsCanonical, cover as range_tomb}
use Rattle.rc_ranges.specs.calls.Sweep.{lt}
use Rattle.rc_ranges.specs.laws.Covering.{cover-before, cover-behind, cover-inside, cover-none}
use Rattle.rc_ranges.specs.laws.Order.{before-lt, gt-lt, le-same, le-trans, lt-before, lt-irrefl, lt-le}
use Rattle.rc_stream.specs.Places.{Reaches}
use Rattle.rc_agreement.specs.calls.Passing.{first_tomb_at, is_even_to, onward_pieces}
use Rattle.rc_agreement.specs.calls.Walking.{EndBehind}
use Rattle.rc_agreement.proofs.Orders.{before-reaches, lt-is, reached-lt, reaches-itself}

flip : (b : Bool) → not b ≡ true → b ≡ false
flip true n = absurd (cc)
flip false n = refl

differ : (t : Tomb) → ◌≡◌ {A = Option Tomb} None (Some t) → ⊥
differ t e = cc

same : (s t : Tomb) → ◌≡◌ {A = Option Tomb} (Some s) (Some t) → s ≡ t
same s t e = ap value e
  where
    value : Option Tomb → Tomb
    value None = s
    value (Some u) = u

pub onward-behind : (x : Pos) (ps : List Piece) → EndBehind x (onward_pieces x ps)
onward-behind x [] = tt
onward-behind x (p ∷ ps) = elim (is_lt (pos_cmp x p.to)) as (λ b. is_lt (pos_cmp x p.to) ≡ b → EndBehind x (cond b (p ∷ ps) (onward_pieces x ps))) [
  | true ↦ λ e. e
  | false ↦ λ _. onward-behind x ps
] refl

pub onward-canonical : (x : Pos) (ps : List Piece) → IsCanonical ps → IsCanonical (onward_pieces x ps)
onward-canonical x [] h = h
onward-canonical x (p ∷ ps) h = elim (is_lt (pos_cmp x p.to)) as (λ b. IsCanonical (cond b (p ∷ ps) (onward_pieces x ps))) [
  | true ↦ h
  | false ↦ onward-canonical x ps h.2
]

-- from the place on they say the same
pub onward-tomb : (x : Pos) (ps : List Piece) (y : Pos) → Reaches x y → range_tomb (onward_pieces x ps) y ≡ range_tomb ps y
onward-tomb x [] y h = refl
onward-tomb x (p ∷ ps) y h = elim (is_lt (pos_cmp x p.to)) as (λ b. is_lt (pos_cmp x p.to) ≡ b → range_tomb (cond b (p ∷ ps) (onward_pieces x ps)) y ≡ range_tomb (p ∷ ps) y) [
  | true ↦ λ _. refl
  | false ↦ λ l. onward-tomb x ps y h ∙ sym (cover-behind p ps y (le-trans p.to x y (lt-is x p.to ∙ l) (reached-lt x y h)))
] refl

-- the tombstone at the place is that of the first, if that has begun
pub tomb-there : (x : Pos) (ps : List Piece) → IsCanonical ps → EndBehind x ps → range_tomb ps x ≡ first_tomb_at x ps
tomb-there x [] h to = cover-none x
tomb-there x (p ∷ ps) h to = elim (is_lt (pos_cmp x p.from)) as (λ b. is_lt (pos_cmp x p.from) ≡ b → range_tomb (p ∷ ps) x ≡ cond b None (Some p.tomb)) [
  | true ↦ λ l. cover-before p ps h x (lt-is x p.from ∙ l)
  | false ↦ λ l. cover-inside p ps h x (lt-is x p.from ∙ l) (lt-is x p.to ∙ to)
] refl

-- it is in force up to another place
pub even-there : (x to : Pos) (ps : List Piece) → IsCanonical ps → EndBehind x ps → IsTrue (is_even_to x to ps) → (y : Pos) → Reaches x y → IsBefore y to → range_tomb ps y ≡ first_tomb_at x ps
even-there x to [] h ends = λ even y a b. cover-none y
even-there x to (p ∷ ps) h ends = elim (is_lt (pos_cmp x p.from)) as (λ r. is_lt (pos_cmp x p.from) ≡ r → cond r (not (is_lt (pos_cmp p.from to))) (not (is_lt (pos_cmp p.to to))) ≡ true → (y : Pos) → Reaches x y → IsBefore y to → range_tomb (p ∷ ps) y ≡ cond r None (Some p.tomb)) [
  | true ↦ λ l even y a b. cover-before p ps h y (lt-le y to p.from (before-lt y to b) (lt-is p.from to ∙ flip (is_lt (pos_cmp p.from to)) even))
  | false ↦ λ l even y a b. cover-inside p ps h y (le-trans p.from x y (lt-is x p.from ∙ l) (reached-lt x y a)) (lt-le y to p.to (before-lt y to b) (lt-is p.to to ∙ flip (is_lt (pos_cmp p.to to)) even))
] refl

-- where the next piece begins at once its tombstone is another one
not-on : (p : Piece) (ps : List Piece) → IsCanonical (p ∷ ps) → range_tomb (p ∷ ps) p.to ≡ Some p.tomb → ⊥
not-on p [] h e = differ p.tomb (sym (cover-none p.to) ∙ sym (cover-behind p [] p.to (lt-irrefl p.to)) ∙ e)
not-on p (q ∷ qs) h e = elim (lt p.to q.from) as (λ b. lt p.to q.from ≡ b → ⊥) [
  | true ↦ λ l. differ p.tomb (sym (cover-before q qs h.2 p.to l) ∙ sym (cover-behind p (q ∷ qs) p.to (lt-irrefl p.to)) ∙ e)
  | false ↦ λ l.
      let at : p.to ≡ q.from = le-same p.to q.from (sym (gt-lt p.to q.from) ∙ h.1.0) l in
      let there : range_tomb (q ∷ qs) p.to ≡ Some q.tomb = cover-inside q qs h.2 p.to l (subst (λ z. lt z q.to ≡ true) (sym at) (before-lt q.from q.to h.2.0)) in
      h.1.1 at (same p.tomb q.tomb (sym e ∙ cover-behind p (q ∷ qs) p.to (lt-irrefl p.to) ∙ there))
] refl

-- where one tombstone is in force from the place on and before another, no change stands between
pub there-even : (x to : Pos) (ps : List Piece) (tomb : Option Tomb) → IsCanonical ps → EndBehind x ps → IsBefore x to → ((y : Pos) → Reaches x y → IsBefore y to → range_tomb ps y ≡ tomb) → IsTrue (is_even_to x to ps)
there-even x to [] tomb h ends ahead all = refl
there-even x to (p ∷ ps) tomb h ends ahead all = elim (is_lt (pos_cmp x p.from)) as (λ r. is_lt (pos_cmp x p.from) ≡ r → cond r (not (is_lt (pos_cmp p.from to))) (not (is_lt (pos_cmp p.to to))) ≡ true) [
  | true ↦ λ l. elim (is_lt (pos_cmp p.from to)) as (λ b. is_lt (pos_cmp p.from to) ≡ b → not b ≡ true) [
    | true ↦ λ k. absurd (differ p.tomb (sym (cover-before p ps h x (lt-is x p.from ∙ l)) ∙ all x (reaches-itself x) ahead ∙ sym (all p.from (before-reaches x p.from (lt-before x p.from (lt-is x p.from ∙ l))) (lt-before p.from to (lt-is p.from to ∙ k))) ∙ cover-inside p ps h p.from (lt-irrefl p.from) (before-lt p.from p.to h.0)))
    | false ↦ λ _. refl
  ] refl
  | false ↦ λ l. elim (is_lt (pos_cmp p.to to)) as (λ b. is_lt (pos_cmp p.to to) ≡ b → not b ≡ true) [
    | true ↦ λ k. absurd (not-on p ps h (all p.to (before-reaches x p.to (lt-before x p.to (lt-is x p.to ∙ ends))) (lt-before p.to to (lt-is p.to to ∙ k)) ∙ sym (all x (reaches-itself x) ahead) ∙ cover-inside p ps h x (lt-is x p.from ∙ l) (lt-is x p.to ∙ ends)))
    | false ↦ λ _. refl
  ] refl
] refl
