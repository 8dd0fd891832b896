-- The rows in a slice, each under the tombstone in force along the changes; along those of a mutation's ranges it is the ranges' own.
use Rattle.std.specs.Prelude.{◌≡◌, ℕ, Bool, true, false, cond, List, [], ◌∷◌, ◌++◌, Option, Some, None, map as list_map}
use Rattle.std.proofs.Common.{refl, sym, ap, ◌∙◌, T}
use Rattle.std.specs.declared.cmp.Ordering.{Ordering}
use Rattle.std.specs.declared.cmp.Ordering.TheVariants.{Less, Equal, Greater}
use Rattle.std.specs.Ordering.{is_lt, is_eq, eq_by_cmp, ordering_then}
use Rattle.std.specs.List.{cons_option, filter_map}
use Rattle.std.specs.FinMap.{is_sorted}
use Rattle.std.specs.FinMap.Entries.{below_all}
use Rattle.rc_cell.specs.declared.rows.Row.{Row}
use Rattle.rc_cell.specs.declared.writes.Tomb.{Tomb}
use Rattle.rc_cell.specs.laws.ByColumn.{first, second, test_of}
use Rattle.rc_cell.specs.Greatest.{greater}
use Rattle.rc_cell.specs.Orders.{tomb_cmp}
use Rattle.rc_position.specs.declared.comps.Comp.{Comp}
use Rattle.rc_position.specs.declared.positions.Pos.{Pos}
use Rattle.rc_position.specs.declared.slices.Slice.{Slice}
use Rattle.rc_position.specs.Position.{pos_cmp, row_pos}
use Rattle.rc_position.specs.laws.Orders.{pos_cmp_total, pos_cmp_same}
use Rattle.rc_ranges.specs.declared.pieces.Piece.{Piece}
use Rattle.rc_ranges.specs.Cover.{IsCanonical, cover as range_tomb}
use Rattle.rc_ranges.specs.calls.Sweep.{lt}
use Rattle.rc_ranges.specs.laws.Covering.{cover-none, cover-before, cover-inside, cover-behind}
use Rattle.rc_mutation.specs.declared.fragments.Frag.{Frag}
use Rattle.rc_mutation.specs.declared.fragments.Frag.TheVariants as frag
use Rattle.rc_mutation.specs.declared.mutations.Mutation.{Mutation}
use Rattle.rc_mutation.specs.Fragments.{begins_at, changes_of, place_order, placed_change, placed_row, rows_and_changes, tomb_after}
use Rattle.rc_mutation.specs.Slices.{in_slice}
use Rattle.rc_mutation.specs.Source.{IsMutation}
use Rattle.rc_mutation.specs.laws.FragMerge.{changes-placed, fragment_of, merge, merge_into, merge-in_order, rows-placed}
use Rattle.rc_query.specs.declared.lines.OutLine.{OutLine}
use Rattle.rc_query.specs.laws.Answers.{own_line, row_line}

-- the line of a fragment that is a row in a slice, under the partition tombstone and the range tombstone in force
abbrev pub inner_line : Slice → Option Tomb → Option Tomb → Frag → Option OutLine
inner_line slice head tomb (frag.Start pt) = None
inner_line slice head tomb (frag.Static row) = None
inner_line slice head tomb (frag.Row key row) = cond (in_slice slice key) (row_line (greater tomb_cmp head tomb) key row) None
inner_line slice head tomb (frag.Change from next) = None
inner_line slice head tomb frag.End = None

-- those of fragments, one after another
abbrev pub inner_lines : Slice → Option Tomb → Option Tomb → List Frag → List OutLine
inner_lines slice head tomb [] = []
inner_lines slice head tomb (f ∷ fs) = cons_option (inner_line slice head tomb f) (inner_lines slice head (tomb_after tomb f) fs)

-- a row and its key
abbrev Keyed : Type 0
Keyed = List Comp × Row

-- from this position on this tombstone is in force
abbrev Change : Type 0
Change = Pos × Option Tomb

-- the tombstone in force at a position: that of the last change at it or before it, or the one given
abbrev along : Option Tomb → List Change → Pos → Option Tomb
along tomb [] x = tomb
along tomb (b ∷ bs) x = cond (is_lt (pos_cmp x b.0)) tomb (along b.1 bs x)

-- ---- rows and changes that are merged

module _ (slice : Slice) (head : Option Tomb) where
  -- the line of a row in the slice
  abbrev line : Option Tomb → Keyed → Option OutLine
  line tomb e = cond (in_slice slice e.0) (row_line (greater tomb_cmp head tomb) e.0 e.1) None

  -- the lines of rows, each under the tombstone in force
  abbrev forced : Option Tomb → List Change → List Keyed → List OutLine
  forced tomb bs os = filter_map (λ e. line (along tomb bs (row_pos e.0)) e) os

  -- the lines of fragments that carry their places
  abbrev merged_lines : Option Tomb → List ((Pos × ℕ) × Frag) → List OutLine
  merged_lines tomb placed = inner_lines slice head tomb (list_map fragment_of placed)

  no_rows : (tomb : Option Tomb) (bs : List Change) → merged_lines tomb (list_map placed_change bs) ≡ []
  no_rows tomb [] = refl
  no_rows tomb (b ∷ bs) = no_rows b.1 bs

  rows_alone : (tomb : Option Tomb) (os : List Keyed) → merged_lines tomb (list_map placed_row os) ≡ forced tomb [] os
  rows_alone tomb [] = refl
  rows_alone tomb (a ∷ os) = ap (cons_option (line tomb a)) (rows_alone tomb os)

  -- no row stands before x
  abbrev From : Pos → List Keyed → Type 0
  From x [] = Unit {0}
  From x (a ∷ os) = (is_lt (pos_cmp (row_pos a.0) x) ≡ false) × From x os

  -- behind a change the tombstone is its
  passed : (tomb : Option Tomb) (b : Change) (bs : List Change) (os : List Keyed) → From b.0 os → forced tomb (b ∷ bs) os ≡ forced b.1 bs os
  passed tomb b bs [] h = refl
  passed tomb b bs (a ∷ os) h = (λ i. cons_option (line (cond (h.0 i) tomb (along b.1 bs (row_pos a.0))) a) (passed tomb b bs os h.1 i))

  less : (r : Ordering) → T (is_lt (ordering_then r Equal)) → r ≡ Less
  less Less h = refl
  less Equal h = absurd h
  less Greater h = absurd h

  later : (x : Pos) (k l : List Comp) → is_lt (pos_cmp (row_pos k) x) ≡ false → pos_cmp (row_pos k) (row_pos l) ≡ Less → is_lt (pos_cmp (row_pos l) x) ≡ false
  later x k l h e =
      elim (pos_cmp (row_pos l) x) as (λ r. pos_cmp (row_pos l) x ≡ r → is_lt r ≡ false) [
        | Less ↦ λ f. absurd (let g : pos_cmp (row_pos k) x ≡ Less = pos_cmp_total.trans (row_pos k) (row_pos l) x e f in let t : true ≡ false = sym (ap is_lt g) ∙ h in cc)
        | Equal ↦ λ _. refl
        | Greater ↦ λ _. refl
      ] refl

  from_below : (x : Pos) (a : Keyed) (os : List Keyed) → is_lt (pos_cmp (row_pos a.0) x) ≡ false → T (below_all place_order (row_pos a.0, 1) (list_map placed_row os)) → From x os
  from_below x a [] h g = tt
  from_below x a (o ∷ os) h g =
      (later x a.0 o.0 h (less (pos_cmp (row_pos a.0) (row_pos o.0)) (first (is_lt (place_order (row_pos a.0, 1) (row_pos o.0, 1))) (below_all place_order (row_pos a.0, 1) (list_map placed_row os)) g)), from_below x a os h (second (is_lt (place_order (row_pos a.0, 1) (row_pos o.0, 1))) (below_all place_order (row_pos a.0, 1) (list_map placed_row os)) g))

  -- the rows ascend
  abbrev SortedRows : List Keyed → Type 0
  SortedRows os = T (is_sorted place_order (list_map placed_row os))

  into_lines : (a : Keyed) (os : List Keyed) → SortedRows (a ∷ os) → ((tomb : Option Tomb) (bs : List Change) → merged_lines tomb (merge os bs) ≡ forced tomb bs os) → (tomb : Option Tomb) (bs : List Change) → merged_lines tomb (merge_into a os (merge os) bs) ≡ forced tomb bs (a ∷ os)
  into_lines a os g ih tomb [] = rows_alone tomb (a ∷ os)
  into_lines a os g ih tomb (b ∷ bs) =
      elim (is_lt (pos_cmp (row_pos a.0) b.0)) as (λ r. is_lt (pos_cmp (row_pos a.0) b.0) ≡ r → merged_lines tomb (cond r (placed_row a ∷ merge os (b ∷ bs)) (placed_change b ∷ merge_into a os (merge os) bs)) ≡ forced tomb (b ∷ bs) (a ∷ os)) [
        | true ↦ λ p.
            (λ i. cons_option (line (cond (sym p i) tomb (along b.1 bs (row_pos a.0))) a) (ih tomb (b ∷ bs) i))
        | false ↦ λ p.
            into_lines a os g ih b.1 bs
            ∙ sym (passed tomb b bs (a ∷ os) (p, from_below b.0 a os p (first (below_all place_order (row_pos a.0, 1) (list_map placed_row os)) (is_sorted place_order (list_map placed_row os)) g)))
      ] refl

  merge_lines : (tomb : Option Tomb) (os : List Keyed) (bs : List Change) → SortedRows os → merged_lines tomb (merge os bs) ≡ forced tomb bs os
  merge_lines tomb [] bs g = no_rows tomb bs
  merge_lines tomb (a ∷ os) bs g = into_lines a os g (λ t cs. merge_lines t os cs (second (below_all place_order (row_pos a.0, 1) (list_map placed_row os)) (is_sorted place_order (list_map placed_row os)) g)) tomb bs

-- ---- along the changes of canonical pieces the tombstone in force is that of the piece that covers the position

lt-is : (x y : Pos) → lt x y ≡ is_lt (pos_cmp x y)
unfolding lt
lt-is x y = refl

tie : (r : Ordering) → is_eq r ≡ true → r ≡ Equal
tie Less e = absurd (cc)
tie Equal e = refl
tie Greater e = absurd (cc)

-- the change at the end of a range, unless the next range begins there
abbrev ends : Piece → List Piece → List Change
ends p qs = cond (begins_at p.to qs) [] ((p.to, None) ∷ [])

-- where the next piece begins at the end, its start is that end
meets : (p q : Piece) (x : Pos) (b : Bool) → eq_by_cmp pos_cmp q.from p.to ≡ true → is_lt (pos_cmp x p.to) ≡ b → is_lt (pos_cmp x q.from) ≡ b
meets p q x b e h = ap (λ y. is_lt (pos_cmp x y)) (pos_cmp_same q.from p.to (tie (pos_cmp q.from p.to) e)) ∙ h

inside : (tomb : Option Tomb) (p : Piece) (qs : List Piece) (x : Pos) → is_lt (pos_cmp x p.to) ≡ true → along tomb (ends p qs ++ changes_of qs) x ≡ tomb
inside tomb p [] x h = ap (λ b. cond {A = Option Tomb} b tomb None) h
inside tomb p (q ∷ qs) x h =
    elim (eq_by_cmp pos_cmp q.from p.to) as (λ b. eq_by_cmp pos_cmp q.from p.to ≡ b → along tomb (cond b [] ((p.to, None) ∷ []) ++ changes_of (q ∷ qs)) x ≡ tomb) [
      | true ↦ λ e. ap (λ b. cond {A = Option Tomb} b tomb (along (Some q.tomb) (ends q qs ++ changes_of qs) x)) (meets p q x true e h)
      | false ↦ λ e. ap (λ b. cond {A = Option Tomb} b tomb (along None (changes_of (q ∷ qs)) x)) h
    ] refl

behind : (tomb : Option Tomb) (p : Piece) (qs : List Piece) (x : Pos) → is_lt (pos_cmp x p.to) ≡ false → along tomb (ends p qs ++ changes_of qs) x ≡ along None (changes_of qs) x
behind tomb p [] x h = ap (λ b. cond {A = Option Tomb} b tomb None) h
behind tomb p (q ∷ qs) x h =
    elim (eq_by_cmp pos_cmp q.from p.to) as (λ b. eq_by_cmp pos_cmp q.from p.to ≡ b → along tomb (cond b [] ((p.to, None) ∷ []) ++ changes_of (q ∷ qs)) x ≡ along None (changes_of (q ∷ qs)) x) [
      | true ↦ λ e.
          let later = along (Some q.tomb) (ends q qs ++ changes_of qs) x in
          let at = meets p q x false e h in
          ap (λ b. cond {A = Option Tomb} b tomb later) at ∙ sym (ap (λ b. cond {A = Option Tomb} b None later) at)
      | false ↦ λ e. ap (λ b. cond {A = Option Tomb} b tomb (along None (changes_of (q ∷ qs)) x)) h
    ] refl

along-ranges : (ps : List Piece) → IsCanonical ps → (x : Pos) → along None (changes_of ps) x ≡ range_tomb ps x
along-ranges [] is x = sym (cover-none x)
along-ranges (p ∷ ps) is x =
    elim (is_lt (pos_cmp x p.from)) as (λ b. is_lt (pos_cmp x p.from) ≡ b → cond b None (along (Some p.tomb) (ends p ps ++ changes_of ps) x) ≡ range_tomb (p ∷ ps) x) [
      | true ↦ λ e. sym (cover-before p ps is x (lt-is x p.from ∙ e))
      | false ↦ λ e.
          elim (is_lt (pos_cmp x p.to)) as (λ b. is_lt (pos_cmp x p.to) ≡ b → along (Some p.tomb) (ends p ps ++ changes_of ps) x ≡ range_tomb (p ∷ ps) x) [
            | true ↦ λ f. inside (Some p.tomb) p ps x f ∙ sym (cover-inside p ps is x (lt-is x p.from ∙ e) (lt-is x p.to ∙ f))
            | false ↦ λ f. behind (Some p.tomb) p ps x f ∙ along-ranges ps is.2 x ∙ sym (cover-behind p ps x (lt-is x p.to ∙ f))
          ] refl
    ] refl

-- the lines of the rows of a mutation in a slice
pub inner-mutation : (m : Mutation) (slice : Slice) → IsMutation m → inner_lines slice m.pt None (rows_and_changes m) ≡ filter_map (own_line m slice) m.rows
inner-mutation m slice is =
    let rows = rows-placed m.rows is.rows.ascend in
    let changes = changes-placed m.ranges is.ranges in
    ap (inner_lines slice m.pt None) (sym (merge-in_order m.rows (changes_of m.ranges) rows changes))
    ∙ merge_lines slice m.pt None m.rows (changes_of m.ranges) (test_of _ rows)
    ∙ (λ i. filter_map (λ (e : Keyed). cond (in_slice slice e.0) (row_line (greater tomb_cmp m.pt (along-ranges m.ranges is.ranges (row_pos e.0) i)) e.0 e.1) None) m.rows)
