-- Fragments by ascending place: what those behind a place say before it.
use Rattle.std.specs.Prelude.{◌≡◌, ℕ, true, false, cond, List, [], ◌∷◌, ◌++◌, Option}
use Rattle.std.proofs.Common.{refl, sym, ap, ◌∙◌}
use Rattle.std.specs.declared.cmp.Ordering.{Ordering}
use Rattle.std.specs.declared.cmp.Ordering.TheVariants.{Less, Equal, Greater}
use Rattle.std.specs.Ordering.{eq_by_cmp, is_eq, is_le, is_lt, nat_cmp, ordering_reverse, ordering_then}
use Rattle.std.specs.Cmp.{IsTotalOrder, on_total, then_total, nat_cmp_total, tied_itself}
use Rattle.std.specs.FinMap.{IsAntisymmetric, nat_cmp-IsAntisymmetric}
use Rattle.rc_cell.specs.declared.writes.Tomb.{Tomb}
use Rattle.rc_position.specs.declared.positions.Pos.{Pos}
use Rattle.rc_position.specs.Position.{pos_cmp, row_pos}
use Rattle.rc_position.specs.laws.Orders.{pos_cmp_total, pos_cmp_same}
use Rattle.rc_mutation.specs.declared.fragments.Frag.{Frag}
use Rattle.rc_mutation.specs.declared.fragments.Frag.TheVariants as frag
use Rattle.rc_mutation.specs.Fragments.{place_order, tomb_after}
use Rattle.rc_stream.specs.Stream.{force, is_passed, row_at}
use Rattle.rc_stream.specs.Merging.{IsInner, IsOrdered, StandsBefore, place_of, rows_here}

-- where a fragment stands: its position, and its turn among those of that position
abbrev pub Place : Type 0
Place = Pos × ℕ

-- one place is before another
abbrev pub Lt : Place → Place → Type 0
Lt p q = place_order p q ≡ Less

pub place_total : IsTotalOrder place_order
place_total = then_total (on_total (λ (p : Pos × ℕ). p.0) pos_cmp_total) (on_total (λ (p : Pos × ℕ). p.1) nat_cmp_total)

then_first : (r s : Ordering) → ordering_then r s ≡ Equal → r ≡ Equal
then_first Less s e = e
then_first Equal s e = refl
then_first Greater s e = e

then_second : (r s : Ordering) → ordering_then r s ≡ Equal → s ≡ Equal
then_second Less s e = absurd (cc)
then_second Equal s e = e
then_second Greater s e = absurd (cc)

pub place_same : IsAntisymmetric place_order
place_same x y e =
    let positions : x.0 ≡ y.0 = pos_cmp_same x.0 y.0 (then_first (pos_cmp x.0 y.0) (nat_cmp x.1 y.1) e) in
    let ranks : x.1 ≡ y.1 = nat_cmp-IsAntisymmetric x.1 y.1 (then_second (pos_cmp x.0 y.0) (nat_cmp x.1 y.1) e) in
    λ i. (positions i, ranks i)

-- what stands behind p stands behind each place that p does not come before
pub over : (p q r : Place) → Lt p q → is_lt (place_order p r) ≡ false → Lt r q
over p q r a h =
    elim (place_order p r) as (λ o. place_order p r ≡ o → is_lt o ≡ false → Lt r q) [
      | Less ↦ λ e k. absurd (cc)
      | Equal ↦ λ e k. sym (place_total.congr p r q e) ∙ a
      | Greater ↦ λ e k. place_total.trans r p q (place_total.antisymm r p ∙ ap ordering_reverse e) a
    ] refl h

pub turned : (p q : Place) → Lt p q → is_lt (place_order q p) ≡ false
turned p q a = ap is_lt (place_total.antisymm q p ∙ ap ordering_reverse a)

pub irreflexive : (p : Place) → is_lt (place_order p p) ≡ false
irreflexive p = elim (place_order p p) as (λ o. place_order p p ≡ o → is_lt o ≡ false) [ Less ↦ λ e. (let k : Less ≡ Greater = sym e ∙ place_total.antisymm p p ∙ ap ordering_reverse e in absurd (cc)) | Equal ↦ λ _. refl | Greater ↦ λ _. refl ] refl

pub before-through : (p q : Place) (fs : List Frag) → Lt p q → StandsBefore q fs → StandsBefore p fs
before-through p q [] a h = tt
before-through p q (f ∷ fs) a h = (place_total.trans p q (place_of f) a h.0, before-through p q fs a h.1)

pub before-append : (p : Place) (fs gs : List Frag) → StandsBefore p fs → StandsBefore p gs → StandsBefore p (fs ++ gs)
before-append p [] gs h k = k
before-append p (f ∷ fs) gs h k = (h.0, before-append p fs gs h.1 k)

-- ---- a fragment behind a position, and one before it

less_then : (r : Ordering) → ordering_then r Equal ≡ Less → r ≡ Less
less_then Less e = refl
less_then Equal e = e
less_then Greater e = e

le_then : (r : Ordering) → ordering_then r Less ≡ Less → is_le r ≡ true
le_then Less e = refl
le_then Equal e = refl
le_then Greater e = absurd (cc)

gt_then : (r : Ordering) → ordering_then r Greater ≡ Less → r ≡ Less
gt_then Less e = refl
gt_then Equal e = absurd (cc)
gt_then Greater e = e

turn_le : (r : Ordering) → is_le r ≡ true → is_lt (ordering_reverse r) ≡ false
turn_le Less e = refl
turn_le Equal e = refl
turn_le Greater e = absurd (cc)

turn_lt : (r : Ordering) → r ≡ Less → is_le (ordering_reverse r) ≡ false
turn_lt Less e = refl
turn_lt Equal e = absurd (cc)
turn_lt Greater e = absurd (cc)

-- what stands behind the place of a change at x is not passed by a seek to x
pub not_passed : (x : Pos) (f : Frag) → IsInner f → Lt (x, 0) (place_of f) → is_passed x f ≡ false
not_passed x (frag.Start pt) i h = absurd i
not_passed x (frag.Static row) i h = absurd i
not_passed x (frag.Row key row) i h = ap is_lt (pos_cmp_total.antisymm (row_pos key) x) ∙ turn_le (pos_cmp x (row_pos key)) (le_then (pos_cmp x (row_pos key)) h)
not_passed x (frag.Change from tomb) i h = ap is_le (pos_cmp_total.antisymm from x) ∙ turn_lt (pos_cmp x from) (less_then (pos_cmp x from) h)
not_passed x frag.End i h = absurd i

lt_not : (r : Ordering) → is_lt r ≡ false → is_lt (ordering_then r Greater) ≡ false
lt_not Less e = absurd (cc)
lt_not Equal e = refl
lt_not Greater e = refl

le_not : (r : Ordering) → is_le r ≡ false → is_lt (ordering_then r Equal) ≡ false
le_not Less e = absurd (cc)
le_not Equal e = absurd (cc)
le_not Greater e = refl

-- what a seek to x does not pass does not stand before the places of x
pub unpassed : (x : Pos) (f : Frag) → IsInner f → is_passed x f ≡ false → is_lt (place_order (place_of f) (x, 0)) ≡ false
unpassed x (frag.Start pt) i h = absurd i
unpassed x (frag.Static row) i h = absurd i
unpassed x (frag.Row key row) i h = lt_not (pos_cmp (row_pos key) x) h
unpassed x (frag.Change from tomb) i h = le_not (pos_cmp from x) h
unpassed x frag.End i h = absurd i

is_less_lt : (r : Ordering) → r ≡ Less → is_lt r ≡ true
is_less_lt r e = ap is_lt e

is_less_le : (r : Ordering) → r ≡ Less → is_le r ≡ true
is_less_le r e = ap is_le e

-- what stands before the place of a change at x is passed by a seek to x
pub passed-change : (x : Pos) (f : Frag) → IsInner f → Lt (place_of f) (x, 0) → is_passed x f ≡ true
passed-change x (frag.Start pt) i h = absurd i
passed-change x (frag.Static row) i h = absurd i
passed-change x (frag.Row key row) i h = is_less_lt (pos_cmp (row_pos key) x) (gt_then (pos_cmp (row_pos key) x) h)
passed-change x (frag.Change from tomb) i h = is_less_le (pos_cmp from x) (less_then (pos_cmp from x) h)
passed-change x frag.End i h = absurd i

-- and what stands before the place of a row at x
pub passed-row : (x : Pos) (f : Frag) → IsInner f → Lt (place_of f) (x, 1) → is_passed x f ≡ true
passed-row x (frag.Start pt) i h = absurd i
passed-row x (frag.Static row) i h = absurd i
passed-row x (frag.Row key row) i h = is_less_lt (pos_cmp (row_pos key) x) (less_then (pos_cmp (row_pos key) x) h)
passed-row x (frag.Change from tomb) i h = le_then (pos_cmp from x) h
passed-row x frag.End i h = absurd i

apart : (r : Ordering) → r ≡ Less → is_eq r ≡ false
apart r e = ap is_eq e

pub no_row-behind : (x : Pos) (f : Frag) → IsInner f → Lt (x, 1) (place_of f) → row_at x f ≡ []
no_row-behind x (frag.Start pt) i h = refl
no_row-behind x (frag.Static row) i h = refl
no_row-behind x (frag.Row key row) i h = ap (λ b. cond b (row ∷ []) []) (apart (pos_cmp x (row_pos key)) (less_then (pos_cmp x (row_pos key)) h))
no_row-behind x (frag.Change from tomb) i h = refl
no_row-behind x frag.End i h = refl

turn_apart : (r : Ordering) → is_lt r ≡ true → is_eq (ordering_reverse r) ≡ false
turn_apart Less h = refl
turn_apart Equal h = absurd (cc)
turn_apart Greater h = absurd (cc)

pub no_row-passed : (x : Pos) (f : Frag) → is_passed x f ≡ true → row_at x f ≡ []
no_row-passed x (frag.Start pt) e = refl
no_row-passed x (frag.Static row) e = refl
no_row-passed x (frag.Row key row) e = ap (λ b. cond b (row ∷ []) []) (ap is_eq (pos_cmp_total.antisymm x (row_pos key)) ∙ turn_apart (pos_cmp (row_pos key) x) e)
no_row-passed x (frag.Change from tomb) e = refl
no_row-passed x frag.End e = refl

-- ---- fragments behind a position

-- no change behind x is in force there
pub stop : (x : Pos) (p : Place) (tomb : Option Tomb) (fs : List Frag) → IsOrdered fs → StandsBefore p fs → is_lt (place_order p (x, 0)) ≡ false → force x tomb fs ≡ tomb
stop x p tomb [] o b h = refl
stop x p tomb (g ∷ gs) o b h = ap (λ c. cond c (force x (tomb_after tomb g) gs) tomb) (not_passed x g o.0 (over p (place_of g) (x, 0) b.0 h))

-- no row behind x is there
pub no_rows : (x : Pos) (p : Place) (fs : List Frag) → IsOrdered fs → StandsBefore p fs → is_lt (place_order p (x, 1)) ≡ false → rows_here x fs ≡ []
no_rows x p [] o b h = refl
no_rows x p (g ∷ gs) o b h = ap (λ rs. rs ++ rows_here x gs) (no_row-behind x g o.0 (over p (place_of g) (x, 1) b.0 h)) ∙ no_rows x p gs o.2 b.1 h

pub itself : (x : Pos) → eq_by_cmp pos_cmp x x ≡ true
itself x = ap is_eq (tied_itself pos_cmp_total x)

pub passes-itself : (x : Pos) → is_le (pos_cmp x x) ≡ true
passes-itself x = ap is_le (tied_itself pos_cmp_total x)

tie : (r : Ordering) → is_eq r ≡ true → r ≡ Equal
tie Less e = absurd (cc)
tie Equal e = refl
tie Greater e = absurd (cc)

pub same_pos : (x y : Pos) → eq_by_cmp pos_cmp x y ≡ true → x ≡ y
same_pos x y e = pos_cmp_same x y (tie (pos_cmp x y) e)
