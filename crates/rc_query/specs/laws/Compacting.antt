-- The compactor over the head and the fragments of a mutation gives the answer of that mutation.
use Rattle.std.specs.Prelude.{◌≡◌, ℕ, Bool, true, false, cond, ◌&&◌, List, [], ◌∷◌, ◌++◌, Option, Some, None, map as list_map}
use Rattle.std.proofs.Common.{refl, sym, ap, ◌∙◌, subst, T}
use Rattle.std.specs.declared.cmp.Ordering.{Ordering}
use Rattle.std.specs.declared.cmp.Ordering.TheVariants.{Less, Equal, Greater}
use Rattle.std.specs.Ordering.{is_le, is_lt, is_eq, eq_by_cmp, ordering_then, ordering_reverse}
use Rattle.std.specs.Option.{option_map, option_to_list}
use Rattle.std.specs.List.{cons_option, filter, filter_map}
use Rattle.std.specs.FinMap.{is_sorted}
use Rattle.std.specs.FinMap.Entries.{below_all, is_sorted-where_key, where_key}
use Rattle.rc_cell.specs.declared.rows.Row.{Row}
use Rattle.rc_cell.specs.declared.writes.Tomb.{Tomb}
use Rattle.rc_cell.specs.laws.ByColumn.{both, holds, test_of, first, second}
use Rattle.rc_cell.specs.Greatest.{greater}
use Rattle.rc_cell.specs.Orders.{tomb_cmp}
use Rattle.rc_position.specs.declared.comps.Comp.{Comp}
use Rattle.rc_position.specs.declared.positions.Pos.{Pos}
use Rattle.rc_position.specs.Position.{key_cmp, pos_cmp, row_pos, covers}
use Rattle.rc_position.specs.laws.Orders.{pos_cmp_total, pos_cmp_same}
use Rattle.rc_position.specs.laws.Bounds.{Before-rows, After-rows}
use Rattle.rc_ranges.specs.declared.pieces.Piece.{Piece}
use Rattle.rc_ranges.specs.Cover.{IsCanonical, cover as range_tomb}
use Rattle.rc_ranges.specs.calls.Sweep.{lt}
use Rattle.rc_ranges.specs.laws.Order.{le-trans, lt-le, lt-trans}
use Rattle.rc_ranges.specs.laws.Covering.{cover-none, cover-before, cover-inside, cover-behind}
use Rattle.rc_mutation.specs.declared.fragments.Frag.{Frag}
use Rattle.rc_mutation.specs.declared.fragments.Frag.TheVariants as frag
use Rattle.rc_mutation.specs.declared.mutations.Mutation.{Mutation}
use Rattle.rc_mutation.specs.Fragments.{begins_at, changes_of, fragments, in_order, place_order, placed_change, placed_row, is_written, tomb_after}
use Rattle.rc_mutation.specs.Source.{IsMutation}
use Rattle.rc_mutation.specs.laws.FragMerge.{merge, merge_into, merge-in_order, fragment_of, rows-placed, changes-placed}
use Rattle.rc_query.specs.declared.lines.OutLine.{OutLine}
use Rattle.rc_query.specs.Answer.{answer, in_slice, static_line, whole_slice}
use Rattle.rc_query.specs.laws.Answers.{answer-one, own_cover, own_line, row_line}
use Rattle.rc_query.specs.Compacting.{compacted_all, compacted_lines, fragment_line, fragments_in, is_between, opening_change}
use Rattle.rc_position.specs.declared.slices.Slice.{Slice}

-- a row and its key
abbrev Keyed : Type 0
Keyed = List Comp × Row

-- from this position on this tombstone is in force
abbrev Change : Type 0
Change = Pos × Option Tomb

-- the tombstone in force at a position: that of the last change at it or before it, or the one given
abbrev pub along : Option Tomb → List Change → Pos → Option Tomb
along tomb [] x = tomb
along tomb (b ∷ bs) x = cond (is_lt (pos_cmp x b.0)) tomb (along b.1 bs x)

-- the lines of rows, each under the tombstone in force
abbrev forced : Option Tomb → Option Tomb → List Change → List Keyed → List OutLine
forced head tomb bs os = filter_map (λ e. row_line (greater tomb_cmp head (along tomb bs (row_pos e.0))) e.0 e.1) os

-- the lines of fragments that carry their places
abbrev compacted_merge : Option Tomb → Option Tomb → List ((Pos × ℕ) × Frag) → List OutLine
compacted_merge head tomb placed = compacted_lines head tomb (list_map fragment_of placed)

no_rows : (head tomb : Option Tomb) (bs : List Change) → compacted_merge head tomb (list_map placed_change bs) ≡ []
no_rows head tomb [] = refl
no_rows head tomb (b ∷ bs) = no_rows head b.1 bs

rows_alone : (head tomb : Option Tomb) (os : List Keyed) → compacted_merge head tomb (list_map placed_row os) ≡ forced head tomb [] os
rows_alone head tomb [] = refl
rows_alone head tomb (a ∷ os) = ap (cons_option (row_line (greater tomb_cmp head tomb) a.0 a.1)) (rows_alone head tomb os)

-- no row stands before x
abbrev From : Pos → List Keyed → Type 0
From x [] = Unit {0}
From x (a ∷ os) = (is_lt (pos_cmp (row_pos a.0) x) ≡ false) × From x os

-- behind a change the tombstone is its
passed : (head tomb : Option Tomb) (b : Change) (bs : List Change) (os : List Keyed) → From b.0 os → forced head tomb (b ∷ bs) os ≡ forced head b.1 bs os
passed head tomb b bs [] h = refl
passed head tomb b bs (a ∷ os) h =
    (λ i. cons_option (row_line (greater tomb_cmp head (cond (h.0 i) tomb (along b.1 bs (row_pos a.0)))) a.0 a.1) (passed head tomb b bs os h.1 i))

less : (r : Ordering) → T (is_lt (ordering_then r Equal)) → r ≡ Less
less Less h = refl
less Equal h = absurd h
less Greater h = absurd h

later : (x : Pos) (k l : List Comp) → is_lt (pos_cmp (row_pos k) x) ≡ false → pos_cmp (row_pos k) (row_pos l) ≡ Less → is_lt (pos_cmp (row_pos l) x) ≡ false
later x k l h e =
    elim (pos_cmp (row_pos l) x) as (λ r. pos_cmp (row_pos l) x ≡ r → is_lt r ≡ false) [
      | Less ↦ λ f. absurd (let g : pos_cmp (row_pos k) x ≡ Less = pos_cmp_total.trans (row_pos k) (row_pos l) x e f in let t : true ≡ false = sym (ap is_lt g) ∙ h in cc)
      | Equal ↦ λ _. refl
      | Greater ↦ λ _. refl
    ] refl

from_below : (x : Pos) (a : Keyed) (os : List Keyed) → is_lt (pos_cmp (row_pos a.0) x) ≡ false → T (below_all place_order (row_pos a.0, 1) (list_map placed_row os)) → From x os
from_below x a [] h g = tt
from_below x a (o ∷ os) h g =
    (later x a.0 o.0 h (less (pos_cmp (row_pos a.0) (row_pos o.0)) (first (is_lt (place_order (row_pos a.0, 1) (row_pos o.0, 1))) (below_all place_order (row_pos a.0, 1) (list_map placed_row os)) g)), from_below x a os h (second (is_lt (place_order (row_pos a.0, 1) (row_pos o.0, 1))) (below_all place_order (row_pos a.0, 1) (list_map placed_row os)) g))

-- the rows ascend
abbrev SortedRows : List Keyed → Type 0
SortedRows os = T (is_sorted place_order (list_map placed_row os))

compacted-merge_into : (head : Option Tomb) (a : Keyed) (os : List Keyed) → SortedRows (a ∷ os) → ((tomb : Option Tomb) (bs : List Change) → compacted_merge head tomb (merge os bs) ≡ forced head tomb bs os) → (tomb : Option Tomb) (bs : List Change) → compacted_merge head tomb (merge_into a os (merge os) bs) ≡ forced head tomb bs (a ∷ os)
compacted-merge_into head a os g ih tomb [] = rows_alone head tomb (a ∷ os)
compacted-merge_into head a os g ih tomb (b ∷ bs) =
    elim (is_lt (pos_cmp (row_pos a.0) b.0)) as (λ r. is_lt (pos_cmp (row_pos a.0) b.0) ≡ r → compacted_merge head tomb (cond r (placed_row a ∷ merge os (b ∷ bs)) (placed_change b ∷ merge_into a os (merge os) bs)) ≡ forced head tomb (b ∷ bs) (a ∷ os)) [
      | true ↦ λ p.
          (λ i. cons_option (row_line (greater tomb_cmp head (cond (sym p i) tomb (along b.1 bs (row_pos a.0)))) a.0 a.1) (ih tomb (b ∷ bs) i))
      | false ↦ λ p.
          compacted-merge_into head a os g ih b.1 bs
          ∙ sym (passed head tomb b bs (a ∷ os) (p, from_below b.0 a os p (first (below_all place_order (row_pos a.0, 1) (list_map placed_row os)) (is_sorted place_order (list_map placed_row os)) g)))
    ] refl

compacted-merge : (head tomb : Option Tomb) (os : List Keyed) (bs : List Change) → SortedRows os → compacted_merge head tomb (merge os bs) ≡ forced head tomb bs os
compacted-merge head tomb [] bs g = no_rows head tomb bs
compacted-merge head tomb (a ∷ os) bs g = compacted-merge_into head a os g (λ t cs. compacted-merge head t os cs (second (below_all place_order (row_pos a.0, 1) (list_map placed_row os)) (is_sorted place_order (list_map placed_row os)) g)) tomb bs

-- ---- the tombstone in force along the changes of canonical pieces is that of the piece that covers the position

lt-is : (x y : Pos) → lt x y ≡ is_lt (pos_cmp x y)
unfolding lt
lt-is x y = refl

tie : (r : Ordering) → is_eq r ≡ true → r ≡ Equal
tie Less e = absurd (cc)
tie Equal e = refl
tie Greater e = absurd (cc)

-- the change at the end of a range, unless the next range begins there
abbrev ends : Piece → List Piece → List Change
ends p qs = cond (begins_at p.to qs) [] ((p.to, None) ∷ [])

-- where the next piece begins at the end, its start is that end
meets : (p q : Piece) (x : Pos) (b : Bool) → eq_by_cmp pos_cmp q.from p.to ≡ true → is_lt (pos_cmp x p.to) ≡ b → is_lt (pos_cmp x q.from) ≡ b
meets p q x b e h = ap (λ y. is_lt (pos_cmp x y)) (pos_cmp_same q.from p.to (tie (pos_cmp q.from p.to) e)) ∙ h

inside : (tomb : Option Tomb) (p : Piece) (qs : List Piece) (x : Pos) → is_lt (pos_cmp x p.to) ≡ true → along tomb (ends p qs ++ changes_of qs) x ≡ tomb
inside tomb p [] x h = ap (λ b. cond {A = Option Tomb} b tomb None) h
inside tomb p (q ∷ qs) x h =
    elim (eq_by_cmp pos_cmp q.from p.to) as (λ b. eq_by_cmp pos_cmp q.from p.to ≡ b → along tomb (cond b [] ((p.to, None) ∷ []) ++ changes_of (q ∷ qs)) x ≡ tomb) [
      | true ↦ λ e. ap (λ b. cond {A = Option Tomb} b tomb (along (Some q.tomb) (ends q qs ++ changes_of qs) x)) (meets p q x true e h)
      | false ↦ λ e. ap (λ b. cond {A = Option Tomb} b tomb (along None (changes_of (q ∷ qs)) x)) h
    ] refl

behind : (tomb : Option Tomb) (p : Piece) (qs : List Piece) (x : Pos) → is_lt (pos_cmp x p.to) ≡ false → along tomb (ends p qs ++ changes_of qs) x ≡ along None (changes_of qs) x
behind tomb p [] x h = ap (λ b. cond {A = Option Tomb} b tomb None) h
behind tomb p (q ∷ qs) x h =
    elim (eq_by_cmp pos_cmp q.from p.to) as (λ b. eq_by_cmp pos_cmp q.from p.to ≡ b → along tomb (cond b [] ((p.to, None) ∷ []) ++ changes_of (q ∷ qs)) x ≡ along None (changes_of (q ∷ qs)) x) [
      | true ↦ λ e.
          let later = along (Some q.tomb) (ends q qs ++ changes_of qs) x in
          let at = meets p q x false e h in
          ap (λ b. cond {A = Option Tomb} b tomb later) at ∙ sym (ap (λ b. cond {A = Option Tomb} b None later) at)
      | false ↦ λ e. ap (λ b. cond {A = Option Tomb} b tomb (along None (changes_of (q ∷ qs)) x)) h
    ] refl

-- along the changes of canonical pieces the tombstone in force is theirs
pub along-ranges : (ps : List Piece) → IsCanonical ps → (x : Pos) → along None (changes_of ps) x ≡ range_tomb ps x
along-ranges [] is x = sym (cover-none x)
along-ranges (p ∷ ps) is x =
    elim (is_lt (pos_cmp x p.from)) as (λ b. is_lt (pos_cmp x p.from) ≡ b → cond b None (along (Some p.tomb) (ends p ps ++ changes_of ps) x) ≡ range_tomb (p ∷ ps) x) [
      | true ↦ λ e. sym (cover-before p ps is x (lt-is x p.from ∙ e))
      | false ↦ λ e.
          elim (is_lt (pos_cmp x p.to)) as (λ b. is_lt (pos_cmp x p.to) ≡ b → along (Some p.tomb) (ends p ps ++ changes_of ps) x ≡ range_tomb (p ∷ ps) x) [
            | true ↦ λ f. inside (Some p.tomb) p ps x f ∙ sym (cover-inside p ps is x (lt-is x p.from ∙ e) (lt-is x p.to ∙ f))
            | false ↦ λ f. behind (Some p.tomb) p ps x f ∙ along-ranges ps is.2 x ∙ sym (cover-behind p ps x (lt-is x p.to ∙ f))
          ] refl
    ] refl

-- ---- the whole of a partition

without_end : (head tomb : Option Tomb) (fs : List Frag) → compacted_lines head tomb (fs ++ frag.End ∷ []) ≡ compacted_lines head tomb fs
without_end head tomb [] = refl
without_end head tomb (f ∷ fs) = ap (cons_option (fragment_line head tomb f)) (without_end head (tomb_after tomb f) fs)

without_head : (m : Mutation) (fs : List Frag) → compacted_lines m.pt None ((frag.Start m.pt ∷ cond (is_written m.statics) (frag.Static m.statics ∷ []) []) ++ fs) ≡ compacted_lines m.pt None fs
without_head m fs = elim (is_written m.statics) as (λ b. compacted_lines m.pt None ((frag.Start m.pt ∷ cond b (frag.Static m.statics ∷ []) []) ++ fs) ≡ compacted_lines m.pt None fs) [ true ↦ refl | false ↦ refl ]

pub in_whole : (key : List Comp) → in_slice whole_slice key ≡ true
in_whole key = λ i. is_le (Before-rows [] key i) && is_lt (After-rows [] key i)

-- the compactor over the head and the fragments of a mutation gives its answer
pub compacted-answer : (m : Mutation) → IsMutation m → compacted_all (record { pt = m.pt; statics = m.statics }) (fragments m) ≡ answer (m ∷ []) whole_slice
unfolding fragments
compacted-answer m is =
    let rows = rows-placed m.rows is.rows.ascend in
    let changes = changes-placed m.ranges is.ranges in
    let statics = option_to_list (static_line m.pt (m.statics ∷ [])) in
    let middle = in_order (list_map placed_row m.rows ++ list_map placed_change (changes_of m.ranges)) in
    ap (λ ls. statics ++ ls)
    (without_end m.pt None ((frag.Start m.pt ∷ cond (is_written m.statics) (frag.Static m.statics ∷ []) []) ++ middle)
    ∙ without_head m middle
    ∙ ap (compacted_lines m.pt None) (sym (merge-in_order m.rows (changes_of m.ranges) rows changes))
    ∙ compacted-merge m.pt None m.rows (changes_of m.ranges) (test_of _ rows)
    ∙ (λ i. filter_map (λ (e : Keyed). row_line (greater tomb_cmp m.pt (along-ranges m.ranges is.ranges (row_pos e.0) i)) e.0 e.1) m.rows)
    ∙ (λ i. filter_map (λ (e : Keyed). cond (sym (in_whole e.0) i) (row_line (own_cover m e.0) e.0 e.1) None) m.rows))
    ∙ sym (answer-one m whole_slice is.rows)

-- ---- a slice of a partition

-- the changes ascend
abbrev SortedChanges : List Change → Type 0
SortedChanges cs = T (is_sorted place_order (list_map placed_change cs))

-- the changes come after x
abbrev Behind : Pos → List Change → Type 0
Behind x cs = T (below_all place_order (x, 0) (list_map placed_change cs))

le_turned : (x y : Pos) → is_le (pos_cmp x y) ≡ true → is_lt (pos_cmp y x) ≡ false
le_turned x y h = ap is_lt (pos_cmp_total.antisymm y x) ∙ elim (pos_cmp x y) as (λ r. is_le r ≡ true → is_lt (ordering_reverse r) ≡ false) [ Less ↦ λ _. refl | Equal ↦ λ _. refl | Greater ↦ λ e. absurd (cc) ] h

not_before : (c from x : Pos) → is_lt (pos_cmp from c) ≡ false → is_lt (pos_cmp x from) ≡ false → is_lt (pos_cmp x c) ≡ false
not_before c from x g h = sym (lt-is x c) ∙ le-trans c from x (lt-is from c ∙ g) (lt-is x from ∙ h)

before_later : (x to c : Pos) → is_lt (pos_cmp x to) ≡ true → is_lt (pos_cmp c to) ≡ false → is_lt (pos_cmp x c) ≡ true
before_later x to c g h = sym (lt-is x c) ∙ lt-le x to c (lt-is x to ∙ g) (lt-is c to ∙ h)

before_next : (x c d : Pos) → is_lt (pos_cmp x c) ≡ true → is_lt (pos_cmp c d) ≡ true → is_lt (pos_cmp x d) ≡ true
before_next x c d g h = sym (lt-is x d) ∙ lt-trans x c d (lt-is x c ∙ g) (lt-is c d ∙ h)

plain : (r : Ordering) → T (is_lt (ordering_then r Equal)) → is_lt r ≡ true
plain Less h = refl
plain Equal h = absurd h
plain Greater h = absurd h

-- before the first of changes the tombstone stays
stays : (tomb : Option Tomb) (c : Pos) (cs : List Change) (x : Pos) → Behind c cs → is_lt (pos_cmp x c) ≡ true → along tomb cs x ≡ tomb
stays tomb c [] x h e = refl
stays tomb c (d ∷ ds) x h e =
    ap (λ b. cond {A = Option Tomb} b tomb (along d.1 ds x)) (before_next x c d.0 e (plain (pos_cmp c d.0) (first (is_lt (place_order (c, 0) (d.0, 0))) (below_all place_order (c, 0) (list_map placed_change ds)) h)))

as_then : (r : Ordering) → is_lt r ≡ true → T (is_lt (ordering_then r Equal))
as_then Less e = tt
as_then Equal e = absurd (cc)
as_then Greater e = absurd (cc)

behind_all : (from c : Pos) (cs : List Change) → is_lt (pos_cmp from c) ≡ true → Behind c cs → Behind from cs
behind_all from c [] e h = tt
behind_all from c (d ∷ ds) e h =
    both (is_lt (place_order (from, 0) (d.0, 0))) (below_all place_order (from, 0) (list_map placed_change ds))
    (as_then (pos_cmp from d.0) (before_next from c d.0 e (plain (pos_cmp c d.0) (first (is_lt (place_order (c, 0) (d.0, 0))) (below_all place_order (c, 0) (list_map placed_change ds)) h))))
    (behind_all from c ds e (second (is_lt (place_order (c, 0) (d.0, 0))) (below_all place_order (c, 0) (list_map placed_change ds)) h))

before_changes : (from : Pos) (c : Change) (cs : List Change) → is_lt (pos_cmp from c.0) ≡ true → Behind c.0 cs → Behind from (c ∷ cs)
before_changes from c cs e h = both (is_lt (place_order (from, 0) (c.0, 0))) (below_all place_order (from, 0) (list_map placed_change cs)) (as_then (pos_cmp from c.0) e) (behind_all from c.0 cs e h)

module _ (slice : Slice) (x : Pos) (inside_to : is_lt (pos_cmp x slice.to) ≡ true) where
  abbrev between : List Change → List Change
  between cs = filter (λ c. is_between slice c.0) cs

  -- the changes behind the end of the slice are of no account
  upto_end : (tomb : Option Tomb) (cs : List Change) → Behind slice.from cs → SortedChanges cs → along tomb (between cs) x ≡ along tomb cs x
  upto_end tomb [] h g = refl
  upto_end tomb (c ∷ cs) h g =
      let after_from : is_lt (pos_cmp slice.from c.0) ≡ true = plain (pos_cmp slice.from c.0) (first (is_lt (place_order (slice.from, 0) (c.0, 0))) (below_all place_order (slice.from, 0) (list_map placed_change cs)) h) in
      let later = second (is_lt (place_order (slice.from, 0) (c.0, 0))) (below_all place_order (slice.from, 0) (list_map placed_change cs)) h in
      let over = first (below_all place_order (c.0, 0) (list_map placed_change cs)) (is_sorted place_order (list_map placed_change cs)) g in
      let up = second (below_all place_order (c.0, 0) (list_map placed_change cs)) (is_sorted place_order (list_map placed_change cs)) g in
      ap (λ b. along tomb (cond (b && is_lt (pos_cmp c.0 slice.to)) (c ∷ between cs) (between cs)) x) after_from
      ∙ elim (is_lt (pos_cmp c.0 slice.to)) as (λ b. is_lt (pos_cmp c.0 slice.to) ≡ b → along tomb (cond b (c ∷ between cs) (between cs)) x ≡ cond (is_lt (pos_cmp x c.0)) tomb (along c.1 cs x)) [
        | true ↦ λ _. ap (cond (is_lt (pos_cmp x c.0)) tomb) (upto_end c.1 cs later up)
        | false ↦ λ e.
            let before : is_lt (pos_cmp x c.0) ≡ true = before_later x slice.to c.0 inside_to e in
            upto_end tomb cs later up ∙ stays tomb c.0 cs x over before ∙ sym (ap (λ b. cond {A = Option Tomb} b tomb (along c.1 cs x)) before)
      ] refl

  -- nor are those before its start, of which the last is in along there
  cut : (tomb : Option Tomb) (cs : List Change) → SortedChanges cs → is_lt (pos_cmp x slice.from) ≡ false → along (along tomb cs slice.from) (between cs) x ≡ along tomb cs x
  cut tomb [] g h = refl
  cut tomb (c ∷ cs) g h =
      let up = second (below_all place_order (c.0, 0) (list_map placed_change cs)) (is_sorted place_order (list_map placed_change cs)) g in
      let over = first (below_all place_order (c.0, 0) (list_map placed_change cs)) (is_sorted place_order (list_map placed_change cs)) g in
      elim (is_lt (pos_cmp slice.from c.0)) as (λ b. is_lt (pos_cmp slice.from c.0) ≡ b → along (cond b tomb (along c.1 cs slice.from)) (cond (b && is_lt (pos_cmp c.0 slice.to)) (c ∷ between cs) (between cs)) x ≡ cond (is_lt (pos_cmp x c.0)) tomb (along c.1 cs x)) [
        | true ↦ λ e.
            ap (λ b. along tomb (cond (b && is_lt (pos_cmp c.0 slice.to)) (c ∷ between cs) (between cs)) x) (sym e)
            ∙ upto_end tomb (c ∷ cs) (before_changes slice.from c cs e over) g
        | false ↦ λ e.
            cut c.1 cs up h
            ∙ sym (ap (λ b. cond {A = Option Tomb} b tomb (along c.1 cs x)) (not_before c.0 slice.from x e h))
      ] refl

opened : (from x : Pos) (o : Option Tomb) (cs : List Change) → is_lt (pos_cmp x from) ≡ false → along None (option_to_list (option_map (λ tomb. (from, Some tomb)) o) ++ cs) x ≡ along o cs x
opened from x None cs h = refl
opened from x (Some t) cs h = ap (λ b. cond {A = Option Tomb} b None (along (Some t) cs x)) h

and_first : (a b : Bool) → (a && b) ≡ true → a ≡ true
and_first true b h = refl
and_first false b h = h

and_second : (a b : Bool) → (a && b) ≡ true → b ≡ true
and_second true b h = h
and_second false b h = absurd (cc)

-- the changes that a slice shows: the one in force where it begins, then those inside
abbrev sliced_changes : Slice → List Piece → List Change
sliced_changes slice ranges = opening_change slice ranges ++ filter (λ c. is_between slice c.0) (changes_of ranges)

-- along the changes in a slice the tombstone in force is that of the pieces
along-slice : (slice : Slice) (ps : List Piece) → IsCanonical ps → (x : Pos) → covers slice.from slice.to x ≡ true → along None (sliced_changes slice ps) x ≡ range_tomb ps x
along-slice slice ps is x h =
    let from : is_lt (pos_cmp x slice.from) ≡ false = le_turned slice.from x (and_first (is_le (pos_cmp slice.from x)) (is_lt (pos_cmp x slice.to)) h) in
    let to : is_lt (pos_cmp x slice.to) ≡ true = and_second (is_le (pos_cmp slice.from x)) (is_lt (pos_cmp x slice.to)) h in
    let rest = filter (λ (c : Change). is_between slice c.0) (changes_of ps) in
    opened slice.from x (range_tomb ps slice.from) rest from
    ∙ ap (λ o. along o rest x) (sym (along-ranges ps is slice.from))
    ∙ cut slice x to None (changes_of ps) (test_of _ (changes-placed ps is)) from
    ∙ along-ranges ps is x

map-filter : (p : Pos → Bool) (cs : List Change) → list_map placed_change (filter (λ c. p c.0) cs) ≡ where_key place_order (λ k. p k.0) (list_map placed_change cs)
map-filter p [] = refl
map-filter p (c ∷ cs) = elim (p c.0) as (λ b. list_map placed_change (cond b (c ∷ filter (λ c. p c.0) cs) (filter (λ c. p c.0) cs)) ≡ cond b (placed_change c ∷ where_key place_order (λ k. p k.0) (list_map placed_change cs)) (where_key place_order (λ k. p k.0) (list_map placed_change cs))) [ true ↦ ap (λ es. placed_change c ∷ es) (map-filter p cs) | false ↦ map-filter p cs ]

behind_start : (slice : Slice) (cs : List Change) → Behind slice.from (filter (λ c. is_between slice c.0) cs)
behind_start slice [] = tt
behind_start slice (c ∷ cs) =
    elim (is_between slice c.0) as (λ b. is_between slice c.0 ≡ b → Behind slice.from (cond b (c ∷ filter (λ c. is_between slice c.0) cs) (filter (λ c. is_between slice c.0) cs))) [
      | true ↦ λ e. both (is_lt (place_order (slice.from, 0) (c.0, 0))) _ (as_then (pos_cmp slice.from c.0) (and_first (is_lt (pos_cmp slice.from c.0)) (is_lt (pos_cmp c.0 slice.to)) e)) (behind_start slice cs)
      | false ↦ λ _. behind_start slice cs
    ] refl

sliced-sorted : (slice : Slice) (ps : List Piece) → IsCanonical ps → SortedChanges (sliced_changes slice ps)
sliced-sorted slice ps is =
    let rest = filter (λ (c : Change). is_between slice c.0) (changes_of ps) in
    let up : SortedChanges rest = subst (λ es. T (is_sorted place_order es)) (sym (map-filter (is_between slice) (changes_of ps))) (is_sorted-where_key place_order (λ k. is_between slice k.0) (list_map placed_change (changes_of ps)) (test_of _ (changes-placed ps is))) in
    elim (range_tomb ps slice.from) as (λ o. SortedChanges (option_to_list (option_map (λ tomb. (slice.from, Some tomb)) o) ++ rest)) [
      | None ↦ up
      | Some t ↦ both (below_all place_order (slice.from, 0) (list_map placed_change rest)) _ (behind_start slice (changes_of ps)) up
    ]

filter_map-filter : {X Y : Type 0} (f : X → Option Y) (p : X → Bool) (xs : List X) → filter_map f (filter p xs) ≡ filter_map (λ x. cond (p x) (f x) None) xs
filter_map-filter f p [] = refl
filter_map-filter f p (x ∷ xs) =
    elim (p x) as (λ b. filter_map f (cond b (x ∷ filter p xs) (filter p xs)) ≡ cons_option (cond b (f x) None) (filter_map (λ x. cond (p x) (f x) None) xs)) [
      | true ↦ ap (cons_option (f x)) (filter_map-filter f p xs)
      | false ↦ filter_map-filter f p xs
    ]

-- the compactor over the head and the fragments of a mutation in a slice gives its answer there
pub compacted-slice : (m : Mutation) (slice : Slice) → IsMutation m → compacted_all (record { pt = m.pt; statics = m.statics }) (fragments_in slice m) ≡ answer (m ∷ []) slice
compacted-slice m slice is =
    let inside_rows : List Keyed = filter (λ e. in_slice slice e.0) m.rows in
    let up : T (is_sorted key_cmp inside_rows) = is_sorted-where_key key_cmp (in_slice slice) m.rows (test_of _ is.rows.ascend) in
    let rows = rows-placed inside_rows (holds _ up) in
    let changes = holds _ (sliced-sorted slice m.ranges is.ranges) in
    let statics = option_to_list (static_line m.pt (m.statics ∷ [])) in
    let line : (e : Keyed) → cond (in_slice slice e.0) (row_line (greater tomb_cmp m.pt (along None (sliced_changes slice m.ranges) (row_pos e.0))) e.0 e.1) None ≡ own_line m slice e = λ e.
    elim (in_slice slice e.0) as (λ b. in_slice slice e.0 ≡ b → cond b (row_line (greater tomb_cmp m.pt (along None (sliced_changes slice m.ranges) (row_pos e.0))) e.0 e.1) None ≡ cond b (row_line (own_cover m e.0) e.0 e.1) None) [
      | true ↦ λ h. ap (λ t. row_line (greater tomb_cmp m.pt t) e.0 e.1) (along-slice slice m.ranges is.ranges (row_pos e.0) h)
      | false ↦ λ _. refl
    ] refl in
    ap (λ ls. statics ++ ls)
    (ap (compacted_lines m.pt None) (sym (merge-in_order inside_rows (sliced_changes slice m.ranges) rows changes))
    ∙ compacted-merge m.pt None inside_rows (sliced_changes slice m.ranges) (test_of _ rows)
    ∙ filter_map-filter (λ (e : Keyed). row_line (greater tomb_cmp m.pt (along None (sliced_changes slice m.ranges) (row_pos e.0))) e.0 e.1) (λ e. in_slice slice e.0) m.rows
    ∙ (λ i. filter_map (λ (e : Keyed). line e i) m.rows))
    ∙ sym (answer-one m slice is.rows)
