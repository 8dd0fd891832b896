-- The piece that covers a position, found among pieces in order.
use Rattle.std.proofs.Common.{◌≡◌, ℕ, zero, suc, ◌<◌, ◌≤◌, Bool, true, false, not, cond, List, [], ◌∷◌, length, drop, get_or, Some, None, refl, sym, ap, ◌∙◌, subst, arith}
use Rattle.std.specs.declared.cmp.Ordering.{Ordering}
use Rattle.std.specs.declared.cmp.Ordering.TheVariants.{Less, Equal, Greater}
use Rattle.std.specs.Ordering.{is_ge, is_le, is_gt, ordering_reverse}
use Rattle.std.specs.List.Sorted.{IsPartitionedBy}
use Rattle.rc_position.specs.declared.positions.Pos.{Pos}
use Rattle.rc_position.specs.Position.{pos_cmp}
use Rattle.rc_position.specs.laws.Orders.{pos_cmp_total}
use Rattle.rc_ranges.specs.declared.pieces.Piece.{Piece}
use Rattle.rc_ranges.specs.Cover.{cover, IsCanonical}
use Rattle.rc_ranges.specs.calls.Sweep.{lt, sweep_tomb}
use Rattle.rc_ranges.specs.laws.Order.{gt-lt, before-lt, lt-irrefl, lt-asym, le-trans}
use Rattle.rc_ranges.specs.laws.Covering.{cover-none, cover-before, cover-inside, cover-behind}

-- whether a piece ends at a position or before
abbrev pub ends_by : Pos → Piece → Bool
ends_by x p = is_le (pos_cmp p.to x)

le_not_gt : (r : Ordering) → is_le r ≡ not (is_gt r)
le_not_gt Less = refl
le_not_gt Equal = refl
le_not_gt Greater = refl

not_true : (b : Bool) → not b ≡ true → b ≡ false
not_true true e = absurd (cc)
not_true false e = refl

not_false : (b : Bool) → not b ≡ false → b ≡ true
not_false true e = refl
not_false false e = absurd (cc)

ends_by-lt : (x : Pos) (p : Piece) → ends_by x p ≡ not (lt x p.to)
ends_by-lt x p = le_not_gt (pos_cmp p.to x) ∙ ap not (gt-lt p.to x)

ends_by-so : (x : Pos) (p : Piece) → ends_by x p ≡ true → lt x p.to ≡ false
ends_by-so x p e = not_true (lt x p.to) (sym (ends_by-lt x p) ∙ e)

ends_by-not : (x : Pos) (p : Piece) → ends_by x p ≡ false → lt x p.to ≡ true
ends_by-not x p e = not_false (lt x p.to) (sym (ends_by-lt x p) ∙ e)

-- a later piece ends later
later : (p : Piece) (ps : List Piece) → IsCanonical (p ∷ ps) → (k : ℕ) (d : Piece) → k < length ps → lt (get_or ps k d).to p.to ≡ false
later p [] c k d h = absurd (omega arith)
later p (q ∷ qs) c zero d h =
    le-trans p.to q.from q.to (sym (gt-lt p.to q.from) ∙ c.1.0) (lt-asym q.from q.to (before-lt q.from q.to c.2.0))
later p (q ∷ qs) c (suc k) d h =
    le-trans p.to q.to (get_or qs k d).to
    (le-trans p.to q.from q.to (sym (gt-lt p.to q.from) ∙ c.1.0) (lt-asym q.from q.to (before-lt q.from q.to c.2.0)))
    (later q qs c.2 k d (omega arith))

rise : (xs : List Piece) → IsCanonical xs → (i j : ℕ) (d : Piece) → i ≤ j → j < length xs → lt (get_or xs j d).to (get_or xs i d).to ≡ false
rise [] c i j d h k = absurd (omega arith)
rise (p ∷ ps) c zero zero d h k = lt-irrefl p.to
rise (p ∷ ps) c zero (suc j) d h k = later p ps c j d (omega arith)
rise (p ∷ ps) c (suc i) zero d h k = absurd (omega arith)
rise (p ∷ ps) c (suc i) (suc j) d h k = rise ps c.2 i j d (omega arith) (omega arith)

-- so those that end by a position stand before those that do not
pub IsPartitionedBy-ends : (xs : List Piece) (x : Pos) → IsCanonical xs → IsPartitionedBy (ends_by x) xs
IsPartitionedBy-ends xs x c i j d h k e =
    ends_by-lt x (get_or xs i d)
    ∙ ap not (le-trans (get_or xs i d).to (get_or xs j d).to x (rise xs c i j d h k) (ends_by-so x (get_or xs j d) e))

-- the first that does not is the one that may cover it
pub cover-point : (xs : List Piece) (i : ℕ) (x : Pos) → IsCanonical xs → ((k : ℕ) (d : Piece) → 0 ≤ k → k < i → ends_by x (get_or xs k d) ≡ true) → ((k : ℕ) (d : Piece) → i ≤ k → k < length xs → ends_by x (get_or xs k d) ≡ false) → cover xs x ≡ sweep_tomb (drop i xs) x
cover-point [] zero x c below above = cover-none x
cover-point [] (suc i) x c below above = cover-none x
cover-point (p ∷ ps) zero x c below above =
    let ends : lt x p.to ≡ true = ends_by-not x p (above 0 p (omega arith) (omega arith)) in
    elim (lt x p.from) as (λ b. lt x p.from ≡ b → cover (p ∷ ps) x ≡ cond b None (Some p.tomb)) [
      | true ↦ λ e. cover-before p ps c x e
      | false ↦ λ e. cover-inside p ps c x e ends
    ] refl
cover-point (p ∷ ps) (suc i) x c below above =
    let ends : lt x p.to ≡ false = ends_by-so x p (below 0 p (omega arith) (omega arith)) in
    cover-behind p ps x ends
    ∙ cover-point ps i x c.2 (λ k d h g. below (suc k) d (omega arith) (omega arith)) (λ k d h g. above (suc k) d (omega arith) (omega arith))

-- whether a position is where a piece ends or behind it
abbrev pub ended : Pos → Piece → Bool
ended x p = is_ge (pos_cmp x p.to)

turn_ge : (r : Ordering) → is_ge (ordering_reverse r) ≡ is_le r
turn_ge Less = refl
turn_ge Equal = refl
turn_ge Greater = refl

-- that is where the piece ends by the position
pub ended-ends_by : (x : Pos) (p : Piece) → ended x p ≡ ends_by x p
ended-ends_by x p = ap is_ge (pos_cmp_total.antisymm x p.to) ∙ turn_ge (pos_cmp p.to x)

-- so what holds of the one holds of the other
pub by_ended : (P : (Piece → Bool) → Type 0) (x : Pos) → P (ends_by x) → P (ended x)
by_ended P x h = subst P (λ i p. (sym (ended-ends_by x p)) i) h

pub by_ends : (P : (Piece → Bool) → Type 0) (x : Pos) → P (ended x) → P (ends_by x)
by_ends P x h = subst P (λ i p. ended-ends_by x p i) h
