-- A seek of two streams merged is both sought, merged; a later seek forgets an earlier one.
use Rattle.std.specs.Prelude.{◌≡◌, Bool, true, false, cond, List, [], ◌∷◌, ◌++◌, Option, Some, None}
use Rattle.std.proofs.Common.{refl, sym, ap, ◌∙◌}
use Rattle.std.specs.declared.cmp.Ordering.TheVariants.{Less, Equal, Greater}
use Rattle.std.specs.Ordering.{is_le, is_lt, ordering_reverse, ordering_then}
use Rattle.std.specs.Cmp.{tied_itself}
use Rattle.rc_cell.specs.declared.rows.Row.{Row}
use Rattle.rc_cell.specs.declared.writes.Tomb.{Tomb}
use Rattle.rc_cell.specs.Greatest.{greater}
use Rattle.rc_cell.specs.Orders.{tomb_cmp}
use Rattle.rc_position.specs.declared.positions.Pos.{Pos}
use Rattle.rc_position.specs.Position.{pos_cmp}
use Rattle.rc_position.specs.laws.Orders.{pos_cmp_total}
use Rattle.rc_mutation.specs.declared.fragments.Frag.{Frag}
use Rattle.rc_mutation.specs.declared.fragments.Frag.TheVariants as frag
use Rattle.rc_mutation.specs.declared.fragments.Head.{Head}
use Rattle.rc_mutation.specs.Fragments.{place_order}
use Rattle.rc_stream.specs.Stream.{Stream, force, is_passed, onward, opening, sought_stream}
use Rattle.rc_stream.specs.Merging.{IsOrdered, StandsBefore, joined_head, merged_left, merged_stream, rows_here}
use Rattle.rc_stream.specs.laws.Ordered.{Place, Lt, before-through, irreflexive, no_rows, stop, turned}
use Rattle.rc_stream.proofs.Merged.{merged-says, one_row}
use Rattle.rc_stream.proofs.Determined.{determined}
use Rattle.rc_stream.specs.laws.Sought.{onward-ordered, sought-ordered, sought-telling, sought_left}
use Rattle.rc_stream.specs.laws.Says.{force-onward, force-opening, passed_on, rows-onward, rows-opening}

-- ---- what it says before the position

before_le : (x y : Pos) → is_le (pos_cmp x y) ≡ false → pos_cmp y x ≡ Less
before_le x y e = pos_cmp_total.antisymm y x ∙ elim (pos_cmp x y) as (λ r. is_le r ≡ false → ordering_reverse r ≡ Less) [ Less ↦ λ k. absurd (cc) | Equal ↦ λ k. absurd (cc) | Greater ↦ λ _. refl ] e

opening-behind : (p : Place) (x : Pos) (t : Option Tomb) (fs : List Frag) → Lt p (x, 0) → StandsBefore (x, 0) fs → StandsBefore p (opening x t ++ fs)
opening-behind p x None fs a b = before-through p (x, 0) fs a b
opening-behind p x (Some t) fs a b = (a, before-through p (x, 0) fs a b)

sought-behind : (x y : Pos) (tomb : Option Tomb) (fs : List Frag) → IsOrdered fs → is_le (pos_cmp x y) ≡ false → StandsBefore (y, 1) (sought_left x tomb fs)
sought-behind x y tomb fs o e = opening-behind (y, 1) x (force x tomb fs) (onward x fs) (ap (λ r. ordering_then r Greater) (before_le x y e)) (onward-ordered x fs o).1

row_behind_change : (y : Pos) → is_lt (place_order (y, 1) (y, 0)) ≡ false
row_behind_change y = turned (y, 0) (y, 1) (ap (λ r. ordering_then r Less) (tied_itself pos_cmp_total y))

abbrev RowsOf : Pos → Pos → List Frag → List Row
RowsOf x y fs = cond (is_le (pos_cmp x y)) (rows_here y fs) []

sought-rows : (x y : Pos) (tomb : Option Tomb) (fs : List Frag) → IsOrdered fs → rows_here y (sought_left x tomb fs) ≡ cond (is_le (pos_cmp x y)) (rows_here y fs) []
sought-rows x y tomb fs o =
    elim (is_le (pos_cmp x y)) as (λ b. is_le (pos_cmp x y) ≡ b → rows_here y (sought_left x tomb fs) ≡ cond b (rows_here y fs) []) [
      | true ↦ λ e. rows-opening x y (force x tomb fs) (onward x fs) ∙ rows-onward x y e fs
      | false ↦ λ e. no_rows y (y, 1) (sought_left x tomb fs) (sought-ordered x tomb fs o) (sought-behind x y tomb fs o e) (irreflexive (y, 1))
    ] refl

sought-force : (x y : Pos) (tomb : Option Tomb) (fs : List Frag) → IsOrdered fs → force y None (sought_left x tomb fs) ≡ cond (is_le (pos_cmp x y)) (force y tomb fs) None
sought-force x y tomb fs o =
    elim (is_le (pos_cmp x y)) as (λ b. is_le (pos_cmp x y) ≡ b → force y None (sought_left x tomb fs) ≡ cond b (force y tomb fs) None) [
      | true ↦ λ e. force-opening x y e (force x tomb fs) (onward x fs) ∙ sym (force-onward x y e tomb fs)
      | false ↦ λ e. stop y (y, 1) None (sought_left x tomb fs) (sought-ordered x tomb fs o) (sought-behind x y tomb fs o e) (row_behind_change y)
    ] refl

-- ---- both sought

rows_apart : (b : Bool) (xs ys : List Row) → cond b (one_row (xs ++ ys)) [] ≡ one_row (cond b xs [] ++ cond b ys [])
rows_apart true xs ys = refl
rows_apart false xs ys = refl

tombs_apart : (b : Bool) (s t : Option Tomb) → cond b (greater tomb_cmp s t) None ≡ greater tomb_cmp (cond b s None) (cond b t None)
tombs_apart true s t = refl
tombs_apart false s t = refl

pub sought-merged_left : (x : Pos) (tomb other : Option Tomb) (fs gs : List Frag) → IsOrdered fs → IsOrdered gs → sought_left x (greater tomb_cmp tomb other) (merged_left tomb fs other gs) ≡ merged_left None (sought_left x tomb fs) None (sought_left x other gs)
sought-merged_left x tomb other fs gs o k =
    let now = greater tomb_cmp tomb other in
    let made = merged_left tomb fs other gs in
    let s = merged-says tomb other fs gs o k in
    let t = merged-says None None (sought_left x tomb fs) (sought_left x other gs) (sought-ordered x tomb fs o) (sought-ordered x other gs k) in
    determined None (sought_left x now made) (merged_left None (sought_left x tomb fs) None (sought_left x other gs)) (sought-ordered x now made s.ordered) t.ordered (sought-telling x now made s.telling) t.telling
    (λ y.
    sought-rows x y now made s.ordered
    ∙ ap (λ rs. cond (is_le (pos_cmp x y)) rs []) (s.rows y)
    ∙ rows_apart (is_le (pos_cmp x y)) (rows_here y fs) (rows_here y gs)
    ∙ ap (λ rs. one_row (rs ++ cond (is_le (pos_cmp x y)) (rows_here y gs) [])) (sym (sought-rows x y tomb fs o))
    ∙ ap (λ rs. one_row (rows_here y (sought_left x tomb fs) ++ rs)) (sym (sought-rows x y other gs k))
    ∙ sym (t.rows y))
    (λ y.
    sought-force x y now made s.ordered
    ∙ ap (λ u. cond (is_le (pos_cmp x y)) u None) (s.tombs y)
    ∙ tombs_apart (is_le (pos_cmp x y)) (force y tomb fs) (force y other gs)
    ∙ ap (λ u. greater tomb_cmp u (cond (is_le (pos_cmp x y)) (force y other gs) None)) (sym (sought-force x y tomb fs o))
    ∙ ap (λ u. greater tomb_cmp (force y None (sought_left x tomb fs)) u) (sym (sought-force x y other gs k))
    ∙ sym (t.tombs y))

abbrev pub stream : Head → Option Tomb → List Frag → Stream
stream h t l = record { head = h; tomb = t; left = l }

pub sought-merged : (x : Pos) (s t : Stream) → IsOrdered s.left → IsOrdered t.left → sought_stream x (merged_stream s t) ≡ merged_stream (sought_stream x s) (sought_stream x t)
unfolding merged_stream
sought-merged x s t o k = ap (stream (joined_head s.head t.head) None) (sought-merged_left x s.tomb t.tomb s.left t.left o k)

-- ---- a later seek

onward-onward : (x y : Pos) → is_le (pos_cmp x y) ≡ true → (fs : List Frag) → onward y (onward x fs) ≡ onward y fs
onward-onward x y h [] = refl
onward-onward x y h (f ∷ fs) =
    elim (is_passed x f) as (λ b. is_passed x f ≡ b → onward y (cond b (onward x fs) (f ∷ fs)) ≡ onward y (f ∷ fs)) [
      | true ↦ λ e. onward-onward x y h fs ∙ ap (λ b. cond b (onward y fs) (f ∷ fs)) (sym (passed_on x y f h e))
      | false ↦ λ e. refl
    ] refl

onward-opening : (x y : Pos) → is_le (pos_cmp x y) ≡ true → (t : Option Tomb) (fs : List Frag) → onward y (opening x t ++ fs) ≡ onward y fs
onward-opening x y h None fs = refl
onward-opening x y h (Some t) fs = ap (λ b. cond b (onward y fs) (frag.Change x (Some t) ∷ fs)) h

pub sought-sought : (x y : Pos) (s : Stream) → is_le (pos_cmp x y) ≡ true → sought_stream y (sought_stream x s) ≡ sought_stream y s
sought-sought x y s h =
    ap (λ t. stream s.head None (opening y t ++ onward y (sought_left x s.tomb s.left))) (force-opening x y h (force x s.tomb s.left) (onward x s.left) ∙ sym (force-onward x y h s.tomb s.left))
    ∙ ap (λ l. stream s.head None (opening y (force y s.tomb s.left) ++ l)) (onward-opening x y h (force x s.tomb s.left) (onward x s.left) ∙ onward-onward x y h s.left)
