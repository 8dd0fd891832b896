-- What the rows and changes of a mutation say at a position: the row that it has there, and the range tombstone in force.
use Rattle.std.specs.Prelude.{◌≡◌, Bool, true, false, cond, List, [], ◌∷◌, ◌++◌, Option, Some, None, map as list_map, filter}
use Rattle.std.proofs.Common.{refl, sym, ap, ◌∙◌, append-nil}
use Rattle.std.specs.declared.cmp.Ordering.{Ordering}
use Rattle.std.specs.declared.cmp.Ordering.TheVariants.{Less, Equal, Greater}
use Rattle.std.specs.Ordering.{eq_by_cmp, is_eq, is_le, is_lt, ordering_reverse}
use Rattle.rc_cell.specs.declared.rows.Row.{Row}
use Rattle.rc_cell.specs.declared.writes.Tomb.{Tomb}
use Rattle.rc_cell.specs.Winner.{joined_row}
use Rattle.rc_cell.specs.laws.{joined_row-none, joined_row-one}
use Rattle.rc_position.specs.declared.comps.Comp.{Comp}
use Rattle.rc_position.specs.declared.positions.Pos.{Pos}
use Rattle.rc_position.specs.Position.{pos_cmp, row_pos}
use Rattle.rc_position.specs.laws.Orders.{pos_cmp_total, pos_cmp_same}
use Rattle.rc_ranges.specs.declared.pieces.Piece.{Piece}
use Rattle.rc_ranges.specs.Cover.{IsCanonical, cover as range_tomb}
use Rattle.rc_ranges.specs.calls.Sweep.{lt}
use Rattle.rc_ranges.specs.laws.Covering.{cover-before, cover-behind, cover-inside, cover-none}
use Rattle.rc_mutation.specs.declared.fragments.Frag.{Frag}
use Rattle.rc_mutation.specs.declared.fragments.Frag.TheVariants as frag
use Rattle.rc_mutation.specs.declared.mutations.Mutation.{Mutation}
use Rattle.rc_mutation.specs.Fragments.{begins_at, changes_of, place_order, placed_change, placed_row, rows_and_changes}
use Rattle.rc_mutation.specs.Source.{IsMutation, rows_in, source_at}
use Rattle.rc_mutation.specs.laws.FragMerge.{merge, merge_into, merge-in_order, fragment_of, rows-placed, changes-placed}
use Rattle.rc_stream.specs.Stream.{force}
use Rattle.rc_stream.specs.Merging.{IsOrdered, rows_here}
use Rattle.rc_stream.specs.laws.Ordered.{irreflexive, no_rows, same_pos}
use Rattle.rc_cacheread.specs.Reading.{row_of_these, said_at}

-- a row with its clustering key
abbrev Keyed : Type 0
Keyed = List Comp × Row

-- a position, and the tombstone in force from it on
abbrev Change : Type 0
Change = Pos × Option Tomb

-- rows and changes by position
abbrev pub run : List Keyed → List Change → List Frag
run os bs = list_map fragment_of (merge os bs)

pub run-is : (m : Mutation) → IsMutation m → run m.rows (changes_of m.ranges) ≡ rows_and_changes m
run-is m is = merge-in_order m.rows (changes_of m.ranges) (rows-placed m.rows is.rows.ascend) (changes-placed m.ranges is.ranges)

-- ---- their rows

row_step : (b : Bool) (a : Keyed) (l : List Row) (es : List Keyed) → l ≡ list_map (λ e. e.1) es → cond b (a.1 ∷ []) [] ++ l ≡ list_map (λ e. e.1) (cond b (a ∷ es) es)
row_step true a l es h = ap (λ k. a.1 ∷ k) h
row_step false a l es h = h

abbrev here : Pos → List Keyed → List Keyed
here x os = filter (λ e. eq_by_cmp pos_cmp x (row_pos e.0)) os

rows-changes : (x : Pos) (bs : List Change) → rows_here x (list_map fragment_of (list_map placed_change bs)) ≡ []
rows-changes x [] = refl
rows-changes x (b ∷ bs) = rows-changes x bs

rows-alone : (x : Pos) (os : List Keyed) → rows_here x (list_map fragment_of (list_map placed_row os)) ≡ rows_in x os
rows-alone x [] = refl
rows-alone x (a ∷ os) = row_step (eq_by_cmp pos_cmp x (row_pos a.0)) a (rows_here x (list_map fragment_of (list_map placed_row os))) (here x os) (rows-alone x os)

rows-into : (x : Pos) (a : Keyed) (os : List Keyed) → ((bs : List Change) → rows_here x (run os bs) ≡ rows_in x os) → (bs : List Change) → rows_here x (list_map fragment_of (merge_into a os (merge os) bs)) ≡ rows_in x (a ∷ os)
rows-into x a os ih [] = rows-alone x (a ∷ os)
rows-into x a os ih (b ∷ bs) =
    elim (is_lt (pos_cmp (row_pos a.0) b.0)) as (λ r. rows_here x (list_map fragment_of (cond r (placed_row a ∷ merge os (b ∷ bs)) (placed_change b ∷ merge_into a os (merge os) bs))) ≡ rows_in x (a ∷ os)) [
      | true ↦ row_step (eq_by_cmp pos_cmp x (row_pos a.0)) a (rows_here x (run os (b ∷ bs))) (here x os) (ih (b ∷ bs))
      | false ↦ rows-into x a os ih bs
    ]

rows-run : (x : Pos) (os : List Keyed) (bs : List Change) → rows_here x (run os bs) ≡ rows_in x os
rows-run x [] bs = rows-changes x bs
rows-run x (a ∷ os) bs = rows-into x a os (rows-run x os) bs

-- ---- the tombstone in force along them

abbrev along : Option Tomb → List Change → Pos → Option Tomb
along tomb [] x = tomb
along tomb (b ∷ bs) x = cond (is_lt (pos_cmp x b.0)) tomb (along b.1 bs x)

plain : (r : Ordering) → is_lt r ≡ true → r ≡ Less
plain Less h = refl
plain Equal h = absurd (cc)
plain Greater h = absurd (cc)

over_pos : (p q r : Pos) → is_lt (pos_cmp p q) ≡ true → is_lt (pos_cmp p r) ≡ false → is_lt (pos_cmp r q) ≡ true
over_pos p q r a h =
    elim (pos_cmp p r) as (λ o. pos_cmp p r ≡ o → is_lt o ≡ false → is_lt (pos_cmp r q) ≡ true) [
      | Less ↦ λ e k. absurd (cc)
      | Equal ↦ λ e k. ap is_lt (sym (pos_cmp_total.congr p r q e)) ∙ a
      | Greater ↦ λ e k. ap is_lt (pos_cmp_total.trans r p q (pos_cmp_total.antisymm r p ∙ ap ordering_reverse e) (plain (pos_cmp p q) a))
    ] refl h

turn_le : (r : Ordering) (s t : Option Tomb) → cond (is_le (ordering_reverse r)) s t ≡ cond (is_lt r) t s
turn_le Less s t = refl
turn_le Equal s t = refl
turn_le Greater s t = refl

change_step : (x : Pos) (b : Change) (tomb s : Option Tomb) → cond (is_le (pos_cmp b.0 x)) s tomb ≡ cond (is_lt (pos_cmp x b.0)) tomb s
change_step x b tomb s = ap (λ r. cond (is_le r) s tomb) (pos_cmp_total.antisymm b.0 x) ∙ turn_le (pos_cmp x b.0) s tomb

force-changes : (x : Pos) (tomb : Option Tomb) (bs : List Change) → force x tomb (list_map fragment_of (list_map placed_change bs)) ≡ along tomb bs x
force-changes x tomb [] = refl
force-changes x tomb (b ∷ bs) = change_step x b tomb (force x b.1 (list_map fragment_of (list_map placed_change bs))) ∙ ap (cond (is_lt (pos_cmp x b.0)) tomb) (force-changes x b.1 bs)

force-rows : (x : Pos) (tomb : Option Tomb) (os : List Keyed) → force x tomb (list_map fragment_of (list_map placed_row os)) ≡ tomb
force-rows x tomb [] = refl
force-rows x tomb (a ∷ os) = elim (is_lt (pos_cmp (row_pos a.0) x)) as (λ b. cond b (force x tomb (list_map fragment_of (list_map placed_row os))) tomb ≡ tomb) [ true ↦ force-rows x tomb os | false ↦ refl ]

force-into : (x : Pos) (a : Keyed) (os : List Keyed) → ((tomb : Option Tomb) (bs : List Change) → force x tomb (run os bs) ≡ along tomb bs x) → (tomb : Option Tomb) (bs : List Change) → force x tomb (list_map fragment_of (merge_into a os (merge os) bs)) ≡ along tomb bs x
force-into x a os ih tomb [] = force-rows x tomb (a ∷ os)
force-into x a os ih tomb (b ∷ bs) =
    elim (is_lt (pos_cmp (row_pos a.0) b.0)) as (λ r. is_lt (pos_cmp (row_pos a.0) b.0) ≡ r → force x tomb (list_map fragment_of (cond r (placed_row a ∷ merge os (b ∷ bs)) (placed_change b ∷ merge_into a os (merge os) bs))) ≡ along tomb (b ∷ bs) x) [
      | true ↦ λ e.
          elim (is_lt (pos_cmp (row_pos a.0) x)) as (λ c. is_lt (pos_cmp (row_pos a.0) x) ≡ c → cond c (force x tomb (run os (b ∷ bs))) tomb ≡ along tomb (b ∷ bs) x) [
            | true ↦ λ _. ih tomb (b ∷ bs)
            | false ↦ λ d. ap (λ c. cond c tomb (along b.1 bs x)) (sym (over_pos (row_pos a.0) b.0 x e d))
          ] refl
      | false ↦ λ e. change_step x b tomb (force x b.1 (list_map fragment_of (merge_into a os (merge os) bs))) ∙ ap (cond (is_lt (pos_cmp x b.0)) tomb) (force-into x a os ih b.1 bs)
    ] refl

force-run : (x : Pos) (os : List Keyed) (tomb : Option Tomb) (bs : List Change) → force x tomb (run os bs) ≡ along tomb bs x
force-run x [] tomb bs = force-changes x tomb bs
force-run x (a ∷ os) tomb bs = force-into x a os (force-run x os) tomb bs

lt-is : (x y : Pos) → lt x y ≡ is_lt (pos_cmp x y)
unfolding lt
lt-is x y = refl

tie : (r : Ordering) → is_eq r ≡ true → r ≡ Equal
tie Less e = absurd (cc)
tie Equal e = refl
tie Greater e = absurd (cc)

-- the change at the end of a range, unless the next range begins there
abbrev ends : Piece → List Piece → List Change
ends p qs = cond (begins_at p.to qs) [] ((p.to, None) ∷ [])

meets : (p q : Piece) (x : Pos) (b : Bool) → eq_by_cmp pos_cmp q.from p.to ≡ true → is_lt (pos_cmp x p.to) ≡ b → is_lt (pos_cmp x q.from) ≡ b
meets p q x b e h = ap (λ y. is_lt (pos_cmp x y)) (pos_cmp_same q.from p.to (tie (pos_cmp q.from p.to) e)) ∙ h

inside : (tomb : Option Tomb) (p : Piece) (qs : List Piece) (x : Pos) → is_lt (pos_cmp x p.to) ≡ true → along tomb (ends p qs ++ changes_of qs) x ≡ tomb
inside tomb p [] x h = ap (λ b. cond {A = Option Tomb} b tomb None) h
inside tomb p (q ∷ qs) x h =
    elim (eq_by_cmp pos_cmp q.from p.to) as (λ b. eq_by_cmp pos_cmp q.from p.to ≡ b → along tomb (cond b [] ((p.to, None) ∷ []) ++ changes_of (q ∷ qs)) x ≡ tomb) [
      | true ↦ λ e. ap (λ b. cond {A = Option Tomb} b tomb (along (Some q.tomb) (ends q qs ++ changes_of qs) x)) (meets p q x true e h)
      | false ↦ λ e. ap (λ b. cond {A = Option Tomb} b tomb (along None (changes_of (q ∷ qs)) x)) h
    ] refl

outside : (tomb : Option Tomb) (p : Piece) (qs : List Piece) (x : Pos) → is_lt (pos_cmp x p.to) ≡ false → along tomb (ends p qs ++ changes_of qs) x ≡ along None (changes_of qs) x
outside tomb p [] x h = ap (λ b. cond {A = Option Tomb} b tomb None) h
outside tomb p (q ∷ qs) x h =
    elim (eq_by_cmp pos_cmp q.from p.to) as (λ b. eq_by_cmp pos_cmp q.from p.to ≡ b → along tomb (cond b [] ((p.to, None) ∷ []) ++ changes_of (q ∷ qs)) x ≡ along None (changes_of (q ∷ qs)) x) [
      | true ↦ λ e.
          let later = along (Some q.tomb) (ends q qs ++ changes_of qs) x in
          let at = meets p q x false e h in
          ap (λ b. cond {A = Option Tomb} b tomb later) at ∙ sym (ap (λ b. cond {A = Option Tomb} b None later) at)
      | false ↦ λ e. ap (λ b. cond {A = Option Tomb} b tomb (along None (changes_of (q ∷ qs)) x)) h
    ] refl

-- along the changes of canonical pieces the tombstone in force is theirs
along-ranges : (ps : List Piece) → IsCanonical ps → (x : Pos) → along None (changes_of ps) x ≡ range_tomb ps x
along-ranges [] is x = sym (cover-none x)
along-ranges (p ∷ ps) is x =
    elim (is_lt (pos_cmp x p.from)) as (λ b. is_lt (pos_cmp x p.from) ≡ b → cond b None (along (Some p.tomb) (ends p ps ++ changes_of ps) x) ≡ range_tomb (p ∷ ps) x) [
      | true ↦ λ e. sym (cover-before p ps is x (lt-is x p.from ∙ e))
      | false ↦ λ e.
          elim (is_lt (pos_cmp x p.to)) as (λ b. is_lt (pos_cmp x p.to) ≡ b → along (Some p.tomb) (ends p ps ++ changes_of ps) x ≡ range_tomb (p ∷ ps) x) [
            | true ↦ λ f. inside (Some p.tomb) p ps x f ∙ sym (cover-inside p ps is x (lt-is x p.from ∙ e) (lt-is x p.to ∙ f))
            | false ↦ λ f. outside (Some p.tomb) p ps x f ∙ along-ranges ps is.2 x ∙ sym (cover-behind p ps x (lt-is x p.to ∙ f))
          ] refl
    ] refl

-- ---- what is said

-- at most one row is at a position, so it is the row of all that are there
one-row : (x : Pos) (fs : List Frag) → IsOrdered fs → row_of_these (rows_here x fs) ≡ joined_row (rows_here x fs)
one-row x [] o = sym joined_row-none
one-row x (frag.Start pt ∷ fs) o = absurd o.0
one-row x (frag.Static row ∷ fs) o = absurd o.0
one-row x (frag.Row key row ∷ fs) o =
    elim (eq_by_cmp pos_cmp x (row_pos key)) as (λ b. eq_by_cmp pos_cmp x (row_pos key) ≡ b → row_of_these (cond b (row ∷ []) [] ++ rows_here x fs) ≡ joined_row (cond b (row ∷ []) [] ++ rows_here x fs)) [
      | true ↦ λ e. ap (λ rs. row_of_these (row ∷ rs)) (alone e) ∙ sym (joined_row-one row o.0) ∙ sym (ap (λ rs. joined_row (row ∷ rs)) (alone e))
      | false ↦ λ _. one-row x fs o.2
    ] refl
  where
    alone : eq_by_cmp pos_cmp x (row_pos key) ≡ true → rows_here x fs ≡ []
    alone e = no_rows x (row_pos key, 1) fs o.2 o.1 (ap (λ y. is_lt (place_order (row_pos key, 1) (y, 1))) (same_pos x (row_pos key) e) ∙ irreflexive (row_pos key, 1))
one-row x (frag.Change from next ∷ fs) o = one-row x fs o.2
one-row x (frag.End ∷ fs) o = absurd o.0

-- a mutation's rows and changes say at each position what it says
pub said : (m : Mutation) → IsMutation m → IsOrdered (rows_and_changes m) → (x : Pos) → said_at x None (rows_and_changes m) ≡ source_at (m ∷ []) x
said m is o x = λ i. (row i, tomb i)
  where
    row : row_of_these (rows_here x (rows_and_changes m)) ≡ joined_row (rows_in x (m.rows ++ []))
    row =
        one-row x (rows_and_changes m) o
        ∙ ap (λ fs. joined_row (rows_here x fs)) (sym (run-is m is))
        ∙ ap joined_row (rows-run x m.rows (changes_of m.ranges))
        ∙ ap (λ os. joined_row (rows_in x os)) (sym (append-nil m.rows))

    tomb : force x None (rows_and_changes m) ≡ range_tomb (m.ranges ++ []) x
    tomb =
        ap (force x None) (sym (run-is m is))
        ∙ force-run x m.rows None (changes_of m.ranges)
        ∙ along-ranges m.ranges is.ranges x
        ∙ ap (λ ps. range_tomb ps x) (sym (append-nil m.ranges))
