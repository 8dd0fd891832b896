-- The canonical fragments of a mutation say what it says, each from its own place on and before the next one's.
use Rattle.std.specs.Prelude.{◌≡◌, ◌||◌, ℕ, ℤ, Bool, true, false, is_some, cond, List, [], ◌∷◌, ◌++◌, Option, Some, None, map as list_map}
use Rattle.std.proofs.lemmas.List.{append_assoc}
use Rattle.std.proofs.Common.{refl, sym, ap, ◌∙◌, subst, append-nil, T}
use Rattle.std.specs.declared.cmp.Ordering.{Ordering}
use Rattle.std.specs.declared.cmp.Ordering.TheVariants.{Less, Equal, Greater}
use Rattle.std.specs.FinMap.{is_sorted}
use Rattle.std.specs.FinMap.Entries.{below_all}
use Rattle.std.specs.List.{filter}
use Rattle.std.specs.Ordering.{is_eq, is_lt, eq_by_cmp, ordering_then}
use Rattle.rc_cell.specs.declared.rows.Row.{Row}
use Rattle.rc_cell.specs.declared.writes.Cell.{Cell}
use Rattle.rc_cell.specs.declared.writes.Tomb.{Tomb}
use Rattle.rc_cell.specs.laws.ByColumn.{first, second, test_of}
use Rattle.rc_cell.specs.laws.{joined_row-none}
use Rattle.rc_cell.specs.Winner.{joined_row, empty_row}
use Rattle.rc_position.specs.declared.comps.Comp.{Comp}
use Rattle.rc_position.specs.declared.positions.Pos.{Pos}
use Rattle.rc_position.specs.Position.{Place, Head, Static, Clustered, End, place_cmp, pos_cmp, row_pos, IsBefore}
use Rattle.rc_position.specs.laws.Orders.{pos_cmp_total, pos_cmp_same}
use Rattle.rc_ranges.specs.declared.pieces.Piece.{Piece}
use Rattle.rc_ranges.specs.Cover.{IsCanonical, cover as range_tomb}
use Rattle.rc_ranges.specs.calls.Sweep.{lt}
use Rattle.rc_ranges.specs.laws.Covering.{cover-none, cover-before, cover-inside, cover-behind}
use Rattle.rc_mutation.specs.declared.fragments.Frag.{Frag}
use Rattle.rc_mutation.specs.declared.fragments.Frag.TheVariants as frag
use Rattle.rc_mutation.specs.declared.mutations.Mutation.{Mutation}
use Rattle.rc_mutation.specs.Fragments.{begins_at, changes_of, fragments, has_any, in_order, is_written, place_order, placed_change, placed_row, static_fragment}
use Rattle.rc_mutation.specs.Source.{IsMutation, source_at, source_at_head, source_at_static, rows_in}
use Rattle.rc_mutation.specs.laws.Sources.{head-one, statics-one}
use Rattle.rc_mutation.specs.laws.FragMerge.{changes-placed, fragment_of, merge, merge-in_order, merge_into, rows-placed}
use Rattle.rc_core.specs.laws.Losing.{tomb-alone}
use Rattle.rc_core.specs.laws.Spots.{turn_to}
use Rattle.rc_units.proofs.Putting.{not_less}
use Rattle.rc_units.specs.Update.{AreFragmentsOf, IsFragmentOf, Precedes, force_after, fragment_head, fragment_rows, fragment_statics, unit_place}

abbrev Keyed : Type 0
Keyed = List Comp × Row

abbrev Change : Type 0
Change = Pos × Option Tomb

-- ---- the tombstone in force at a position: that of the last change up to it, or the one given

abbrev in_force : Option Tomb → List Change → Pos → Option Tomb
in_force tomb [] x = tomb
in_force tomb (b ∷ bs) x = cond (is_lt (pos_cmp x b.0)) tomb (in_force b.1 bs x)

stays : (t : Option Tomb) (b : Change) (bs : List Change) (x : Pos) → is_lt (pos_cmp x b.0) ≡ true → in_force t (b ∷ bs) x ≡ t
stays t b bs x h = ap (λ c. cond {A = Option Tomb} c t (in_force b.1 bs x)) h

passes : (t : Option Tomb) (b : Change) (bs : List Change) (x : Pos) → is_lt (pos_cmp x b.0) ≡ false → in_force t (b ∷ bs) x ≡ in_force b.1 bs x
passes t b bs x h = ap (λ c. cond {A = Option Tomb} c t (in_force b.1 bs x)) h

-- the changes behind a piece's start
abbrev closing : Piece → List Piece → List Change
closing p ps = cond (begins_at p.to ps) [] ((p.to, None) ∷ []) ++ changes_of ps

tied : (r : Ordering) → is_eq r ≡ true → r ≡ Equal
tied Less e = absurd (cc)
tied Equal e = refl
tied Greater e = absurd (cc)

-- the first of them stands at the piece's end
closing_at : (t : Option Tomb) (p : Piece) (ps : List Piece) (x : Pos) (b : Bool) → is_lt (pos_cmp x p.to) ≡ b →
    in_force t (closing p ps) x ≡ cond b t (in_force None (changes_of ps) x)
closing_at t p [] x b h = ap (λ c. cond {A = Option Tomb} c t None) h
closing_at t p (q ∷ qs) x b h =
    elim (begins_at p.to (q ∷ qs)) as (λ c. begins_at p.to (q ∷ qs) ≡ c → in_force t (cond c [] ((p.to, None) ∷ []) ++ changes_of (q ∷ qs)) x ≡ cond b t (in_force None (changes_of (q ∷ qs)) x)) [
      | true ↦ λ e. meets (ap (λ y. is_lt (pos_cmp x y)) (pos_cmp_same q.from p.to (tied (pos_cmp q.from p.to) e)) ∙ h)
      | false ↦ λ e. ap (λ c. cond {A = Option Tomb} c t (in_force None (changes_of (q ∷ qs)) x)) h
    ] refl
  where
    rest : Option Tomb
    rest = in_force (Some q.tomb) (closing q qs) x

    same : (b : Bool) → cond {A = Option Tomb} b t rest ≡ cond b t (cond b None rest)
    same true = refl
    same false = refl

    meets : is_lt (pos_cmp x q.from) ≡ b → in_force t (changes_of (q ∷ qs)) x ≡ cond b t (in_force None (changes_of (q ∷ qs)) x)
    meets g = ap (λ c. cond {A = Option Tomb} c t rest) g ∙ same b ∙ ap (λ c. cond b t (cond {A = Option Tomb} c None rest)) (sym g)

before_it : (x y : Pos) (b : Bool) → is_lt (pos_cmp x y) ≡ b → lt x y ≡ b
unfolding lt
before_it x y b h = h

-- along the changes of canonical pieces the tombstone in force is theirs
in_force-ranges : (ps : List Piece) → IsCanonical ps → (x : Pos) → in_force None (changes_of ps) x ≡ range_tomb ps x
in_force-ranges [] is x = sym (cover-none x)
in_force-ranges (p ∷ ps) is x =
    elim (is_lt (pos_cmp x p.from)) as (λ b. is_lt (pos_cmp x p.from) ≡ b → cond b None (in_force (Some p.tomb) (closing p ps) x) ≡ range_tomb (p ∷ ps) x) [
      | true ↦ λ e. sym (cover-before p ps is x (before_it x p.from true e))
      | false ↦ λ e. elim (is_lt (pos_cmp x p.to)) as (λ b. is_lt (pos_cmp x p.to) ≡ b → in_force (Some p.tomb) (closing p ps) x ≡ range_tomb (p ∷ ps) x) [
        | true ↦ λ f. closing_at (Some p.tomb) p ps x true f ∙ sym (cover-inside p ps is x (before_it x p.from false e) (before_it x p.to true f))
        | false ↦ λ f. closing_at (Some p.tomb) p ps x false f ∙ in_force-ranges ps is.2 x ∙ sym (cover-behind p ps x (before_it x p.to false f))
      ] refl
    ] refl

-- ---- rows and changes in order

abbrev SortedRows : List Keyed → Type 0
SortedRows os = T (is_sorted place_order (list_map placed_row os))

abbrev SortedChanges : List Change → Type 0
SortedChanges bs = T (is_sorted place_order (list_map placed_change bs))

less : (r : Ordering) → T (is_lt (ordering_then r Equal)) → r ≡ Less
less Less h = refl
less Equal h = absurd h
less Greater h = absurd h

-- the next row stands behind a row, and the next change behind a change
row_before_next : (a o : Keyed) (os : List Keyed) → SortedRows (a ∷ o ∷ os) → IsBefore (row_pos a.0) (row_pos o.0)
row_before_next a o os g =
    less (pos_cmp (row_pos a.0) (row_pos o.0)) (first (is_lt (place_order (row_pos a.0, 1) (row_pos o.0, 1))) (below_all place_order (row_pos a.0, 1) (list_map placed_row os))
    (first (below_all place_order (row_pos a.0, 1) (list_map placed_row (o ∷ os))) (is_sorted place_order (list_map placed_row (o ∷ os))) g))

change_before_next : (b c : Change) (bs : List Change) → SortedChanges (b ∷ c ∷ bs) → IsBefore b.0 c.0
change_before_next b c bs g =
    less (pos_cmp b.0 c.0) (first (is_lt (place_order (b.0, 0) (c.0, 0))) (below_all place_order (b.0, 0) (list_map placed_change bs))
    (first (below_all place_order (b.0, 0) (list_map placed_change (c ∷ bs))) (is_sorted place_order (list_map placed_change (c ∷ bs))) g))

later_rows : (a : Keyed) (os : List Keyed) → SortedRows (a ∷ os) → SortedRows os
later_rows a os g = second (below_all place_order (row_pos a.0, 1) (list_map placed_row os)) (is_sorted place_order (list_map placed_row os)) g

later_changes : (b : Change) (bs : List Change) → SortedChanges (b ∷ bs) → SortedChanges bs
later_changes b bs g = second (below_all place_order (b.0, 0) (list_map placed_change bs)) (is_sorted place_order (list_map placed_change bs)) g

rows_in_more : (x : Pos) (a : Keyed) (os : List Keyed) (b : Bool) → eq_by_cmp pos_cmp x (row_pos a.0) ≡ b → rows_in x (a ∷ os) ≡ cond b (a.1 ∷ []) [] ++ rows_in x os
rows_in_more x a os true e = ap (λ c. list_map (λ (e : Keyed). e.1) (cond c (a ∷ filter (λ e. eq_by_cmp pos_cmp x (row_pos e.0)) os) (filter (λ e. eq_by_cmp pos_cmp x (row_pos e.0)) os))) e
rows_in_more x a os false e = ap (λ c. list_map (λ (e : Keyed). e.1) (cond c (a ∷ filter (λ e. eq_by_cmp pos_cmp x (row_pos e.0)) os) (filter (λ e. eq_by_cmp pos_cmp x (row_pos e.0)) os))) e

-- no row stands before the first one
none_before : (x : Pos) (a : Keyed) (os : List Keyed) → SortedRows (a ∷ os) → IsBefore x (row_pos a.0) → rows_in x (a ∷ os) ≡ []
none_before x a [] g l = rows_in_more x a [] false (ap is_eq l)
none_before x a (o ∷ os) g l = rows_in_more x a (o ∷ os) false (ap is_eq l) ∙ none_before x o os (later_rows a (o ∷ os) g) (pos_cmp_total.trans x (row_pos a.0) (row_pos o.0) l (row_before_next a o os g))

-- ---- what a fragment says up to the next one

-- from the next place on nothing is left of its row
row_gone : (f : Frag) (next x : Pos) → Precedes f (Clustered next) → (pos_cmp x next ≡ Less → ⊥) → fragment_rows f x ≡ []
row_gone (frag.Start pt) next x p off = refl
row_gone (frag.Static row) next x p off = refl
row_gone (frag.Row key row) next x p off =
    elim (pos_cmp x (row_pos key)) as (λ r. pos_cmp x (row_pos key) ≡ r → cond (is_eq r) (row ∷ []) [] ≡ []) [
      | Less ↦ λ _. refl
      | Equal ↦ λ h. absurd (off (subst (λ z. pos_cmp z next ≡ Less) (sym (pos_cmp_same x (row_pos key) h)) p))
      | Greater ↦ λ _. refl
    ] refl
row_gone (frag.Change from tomb) next x p off = refl
row_gone frag.End next x p off = refl

pos_behind : (r : Ordering) (x from next : Pos) → pos_cmp from next ≡ r → (r ≡ Greater → ⊥) → pos_cmp x from ≡ Less → pos_cmp x next ≡ Less
pos_behind Less x from next h off l = pos_cmp_total.trans x from next l h
pos_behind Equal x from next h off l = subst (λ z. pos_cmp x z ≡ Less) (pos_cmp_same from next h) l
pos_behind Greater x from next h off l = absurd (off refl)

-- what is not before the next place is not before the fragment
not_earlier : (f : Frag) (next x : Pos) → Precedes f (Clustered next) → (pos_cmp x next ≡ Less → ⊥) → place_cmp (Clustered x) (unit_place f) ≡ Less → ⊥
not_earlier (frag.Start pt) next x p off l = cc
not_earlier (frag.Static row) next x p off l = cc
not_earlier (frag.Row key row) next x p off l = off (pos_cmp_total.trans x (row_pos key) next l p)
not_earlier (frag.Change from tomb) next x p off l = off (pos_behind (pos_cmp from next) x from next refl p l)
not_earlier frag.End next x p off l = absurd p

abbrev FirstRow : Frag → List Keyed → Type 0
FirstRow f [] = Unit {0}
FirstRow f (a ∷ os) = Precedes f (Clustered (row_pos a.0))

abbrev FirstChange : Frag → List Change → Type 0
FirstChange f [] = Unit {0}
FirstChange f (b ∷ bs) = Precedes f (Clustered b.0)

not_less_turned : (x y : Pos) → is_lt (pos_cmp x y) ≡ false → pos_cmp y x ≡ Greater → ⊥
not_less_turned x y h g = let u : true ≡ false = sym (ap is_lt (turn_to y x Greater g)) ∙ h in cc

less_of : (r : Ordering) → is_lt r ≡ true → r ≡ Less
less_of Less h = refl
less_of Equal h = absurd (cc)
less_of Greater h = absurd (cc)

nothing_written : (marker : Option ℤ) (tomb : Option Tomb) (cells : List (ℕ × Cell)) → (is_some marker || (is_some tomb || has_any cells)) ≡ false → ◌≡◌ {A = Row} (record { marker = marker; tomb = tomb; cells = cells }) empty_row
nothing_written None None [] h = refl
nothing_written None None (c ∷ cs) h = absurd (cc)
nothing_written None (Some t) cs h = absurd (cc)
nothing_written (Some x) t cs h = absurd (cc)

no_write : (row : Row) → is_written row ≡ false → row ≡ empty_row
no_write row h = nothing_written row.marker row.tomb row.cells h

module _ (m : Mutation) where
  -- from the fragment's place on the mutation has its row, the rows that follow, and the tombstone in force along the changes that follow
  abbrev SaysFrom : Frag → Option Tomb → List Keyed → List Change → Type 0
  SaysFrom f tomb os bs = (x : Pos) → (place_cmp (Clustered x) (unit_place f) ≡ Less → ⊥) → source_at (m ∷ []) x ≡ (joined_row (fragment_rows f x ++ rows_in x os), in_force tomb bs x)

  -- what a fragment says besides, at the head and at the static row
  record SaysFirst (f : Frag) : Type 0 where
    pub head : unit_place f ≡ Head → source_at_head (m ∷ []) ≡ fragment_head f
    pub statics : (place_cmp Static (unit_place f) ≡ Less → ⊥) → joined_row (fragment_statics f) ≡ source_at_static (m ∷ [])

  row_first : (k : List Comp) (r : Row) → SaysFirst (frag.Row k r)
  row_first k r = record { head = λ h. absurd (cc); statics = λ off. absurd (off refl) }

  change_first : (x : Pos) (t : Option Tomb) → SaysFirst (frag.Change x t)
  change_first x t = record { head = λ h. absurd (cc); statics = λ off. absurd (off refl) }

  stretch : (force : Option Tomb) (f : Frag) (next : Place) (os : List Keyed) (bs : List Change) → SaysFrom f (force_after force f) os bs → SaysFirst f → Precedes f next →
      ((x : Pos) → place_cmp (Clustered x) next ≡ Less → (rows_in x os ≡ []) × (in_force (force_after force f) bs x ≡ force_after force f)) → IsFragmentOf m force f next
  stretch force f next os bs says at_first p none = record {
    precedes = p;
    head = at_first.head;
    statics = λ w. at_first.statics w.begun;
    clustered = λ x _ w.
        let n = none x w.short in
        sym (says x w.begun ∙ (λ i. (joined_row ((ap (λ rs. fragment_rows f x ++ rs) n.0 ∙ append-nil (fragment_rows f x)) i), (n.1 ∙ sym (tomb-alone (force_after force f))) i)));
  }

  from_row : (f : Frag) (tomb : Option Tomb) (a : Keyed) (os : List Keyed) (bs : List Change) → SaysFrom f tomb (a ∷ os) bs → Precedes f (Clustered (row_pos a.0)) → SaysFrom (frag.Row a.0 a.1) tomb os bs
  from_row f tomb a os bs says p x off =
      says x (not_earlier f (row_pos a.0) x p off)
      ∙ (λ i. (joined_row (row_gone f (row_pos a.0) x p off i ++ rows_in_more x a os (eq_by_cmp pos_cmp x (row_pos a.0)) refl i), in_force tomb bs x))

  from_change : (f : Frag) (tomb : Option Tomb) (b : Change) (os : List Keyed) (bs : List Change) → SaysFrom f tomb os (b ∷ bs) → Precedes f (Clustered b.0) → SaysFrom (frag.Change b.0 b.1) b.1 os bs
  from_change f tomb b os bs says p x off =
      says x (not_earlier f b.0 x p off)
      ∙ (λ i. (joined_row (row_gone f b.0 x p off i ++ rows_in x os), passes tomb b bs x (not_less (pos_cmp x b.0) off) i))

  abbrev tail_of : List ((Pos × ℕ) × Frag) → List Frag
  tail_of placed = list_map fragment_of placed ++ frag.End ∷ []

  precedes_end : (f : Frag) → (place_cmp (unit_place f) End ≡ Less) → Precedes f End
  precedes_end (frag.Start pt) l = refl
  precedes_end (frag.Static row) l = refl
  precedes_end (frag.Row key row) l = refl
  precedes_end (frag.Change from tomb) l = λ g. cc
  precedes_end frag.End l = absurd (cc)

  last_stretch : (force : Option Tomb) (f : Frag) → SaysFrom f (force_after force f) [] [] → SaysFirst f → place_cmp (unit_place f) End ≡ Less → AreFragmentsOf m force (f ∷ frag.End ∷ [])
  last_stretch force f says at_first l = (stretch force f End [] [] says at_first (precedes_end f l) (λ x _. (refl, refl)), tt)

  next_change_of : (b : Change) (bs : List Change) → SortedChanges (b ∷ bs) → FirstChange (frag.Change b.0 b.1) bs
  next_change_of b [] g = tt
  next_change_of b (c ∷ bs) g = λ h. let u : Less ≡ Greater = sym (change_before_next b c bs g) ∙ h in cc

  changes_alone : (force : Option Tomb) (f : Frag) (bs : List Change) → SaysFrom f (force_after force f) [] bs → SaysFirst f → place_cmp (unit_place f) End ≡ Less → FirstChange f bs → SortedChanges bs →
      AreFragmentsOf m force (f ∷ tail_of (list_map placed_change bs))
  changes_alone force f [] says at_first l p g = last_stretch force f says at_first l
  changes_alone force f (b ∷ bs) says at_first l p g = (
    stretch force f (Clustered b.0) [] (b ∷ bs) says at_first p (λ x k. (refl, stays (force_after force f) b bs x (ap is_lt k))),
    changes_alone (force_after force f) (frag.Change b.0 b.1) bs (from_change f (force_after force f) b [] bs says p) (change_first b.0 b.1) refl (next_change_of b bs g) (later_changes b bs g),
  )

  next_row : (a : Keyed) (os : List Keyed) → SortedRows (a ∷ os) → FirstRow (frag.Row a.0 a.1) os
  next_row a [] g = tt
  next_row a (o ∷ os) g = row_before_next a o os g

  rows_alone : (force : Option Tomb) (f : Frag) (os : List Keyed) → SaysFrom f (force_after force f) os [] → SaysFirst f → place_cmp (unit_place f) End ≡ Less → FirstRow f os → SortedRows os →
      AreFragmentsOf m force (f ∷ tail_of (list_map placed_row os))
  rows_alone force f [] says at_first l p g = last_stretch force f says at_first l
  rows_alone force f (a ∷ os) says at_first l p g = (
    stretch force f (Clustered (row_pos a.0)) (a ∷ os) [] says at_first p (λ x k. (none_before x a os g k, refl)),
    rows_alone (force_after force f) (frag.Row a.0 a.1) os (from_row f (force_after force f) a os [] says p) (row_first a.0 a.1) refl (next_row a os g) (later_rows a os g),
  )

  abbrev Merged : List Keyed → Type 0
  Merged os = (force : Option Tomb) (f : Frag) (bs : List Change) → SaysFrom f (force_after force f) os bs → SaysFirst f → place_cmp (unit_place f) End ≡ Less → FirstRow f os → FirstChange f bs → SortedChanges bs →
      AreFragmentsOf m force (f ∷ tail_of (merge os bs))

  merged_into : (a : Keyed) (os : List Keyed) → SortedRows (a ∷ os) → Merged os → (force : Option Tomb) (f : Frag) (bs : List Change) → SaysFrom f (force_after force f) (a ∷ os) bs → SaysFirst f → place_cmp (unit_place f) End ≡ Less →
      FirstRow f (a ∷ os) → FirstChange f bs → SortedChanges bs → AreFragmentsOf m force (f ∷ tail_of (merge_into a os (merge os) bs))
  merged_into a os g ih force f [] says at_first l p c s = rows_alone force f (a ∷ os) says at_first l p g
  merged_into a os g ih force f (b ∷ bs) says at_first l p c s =
      elim (is_lt (pos_cmp (row_pos a.0) b.0)) as (λ r. is_lt (pos_cmp (row_pos a.0) b.0) ≡ r → AreFragmentsOf m force (f ∷ tail_of (cond r (placed_row a ∷ merge os (b ∷ bs)) (placed_change b ∷ merge_into a os (merge os) bs)))) [
        | true ↦ λ e. (
          stretch force f (Clustered (row_pos a.0)) (a ∷ os) (b ∷ bs) says at_first p
              (λ x k. (none_before x a os g k, stays (force_after force f) b bs x (ap is_lt (pos_cmp_total.trans x (row_pos a.0) b.0 k (less_of (pos_cmp (row_pos a.0) b.0) e))))),
          ih (force_after force f) (frag.Row a.0 a.1) (b ∷ bs) (from_row f (force_after force f) a os (b ∷ bs) says p) (row_first a.0 a.1) refl (next_row a os g) (less_of (pos_cmp (row_pos a.0) b.0) e) s,
        )
        | false ↦ λ e. (
          stretch force f (Clustered b.0) (a ∷ os) (b ∷ bs) says at_first c
              (λ x k. (none_before x a os g (pos_behind (pos_cmp b.0 (row_pos a.0)) x b.0 (row_pos a.0) refl (not_less_turned (row_pos a.0) b.0 e) k), stays (force_after force f) b bs x (ap is_lt k))),
          merged_into a os g ih (force_after force f) (frag.Change b.0 b.1) bs (from_change f (force_after force f) b (a ∷ os) bs says c) (change_first b.0 b.1) refl
              (not_less_turned (row_pos a.0) b.0 e) (next_change_of b bs s) (later_changes b bs s),
        )
      ] refl

  merged : (os : List Keyed) → SortedRows os → Merged os
  merged [] g force f bs says at_first l p c s = changes_alone force f bs says at_first l c s
  merged (a ∷ os) g force f bs says at_first l p c s = merged_into a os g (merged os (later_rows a os g)) force f bs says at_first l p c s

  -- ---- the whole mutation

  module _ (is : IsMutation m) where
    abbrev changes : List Change
    changes = changes_of m.ranges

    rows_sorted : SortedRows m.rows
    rows_sorted = test_of _ (rows-placed m.rows is.rows.ascend)

    changes_sorted : SortedChanges changes
    changes_sorted = test_of _ (changes-placed m.ranges is.ranges)

    says_all : (x : Pos) → source_at (m ∷ []) x ≡ (joined_row (rows_in x m.rows), in_force None changes x)
    says_all x = λ i. (joined_row (rows_in x (append-nil m.rows i)), (ap (λ ps. range_tomb ps x) (append-nil m.ranges) ∙ sym (in_force-ranges m.ranges is.ranges x)) i)

    unwritten : is_written m.statics ≡ false → joined_row [] ≡ source_at_static (m ∷ [])
    unwritten e = joined_row-none ∙ sym (no_write m.statics e) ∙ sym (statics-one m is)

    before_rows : (f : Frag) (os : List Keyed) → ((x : Pos) → Precedes f (Clustered x)) → FirstRow f os
    before_rows f [] h = tt
    before_rows f (a ∷ os) h = h (row_pos a.0)

    before_changes : (f : Frag) (bs : List Change) → ((x : Pos) → Precedes f (Clustered x)) → FirstChange f bs
    before_changes f [] h = tt
    before_changes f (b ∷ bs) h = h b.0

    from_start : is_written m.statics ≡ false → AreFragmentsOf m None (frag.Start m.pt ∷ tail_of (merge m.rows changes))
    from_start e =
        merged m.rows rows_sorted None (frag.Start m.pt) changes (λ x _. says_all x)
        (record { head = λ _. head-one m; statics = λ _. unwritten e }) refl
        (before_rows (frag.Start m.pt) m.rows (λ x. refl)) (before_changes (frag.Start m.pt) changes (λ x. refl)) changes_sorted

    from_statics : AreFragmentsOf m None (frag.Start m.pt ∷ frag.Static m.statics ∷ tail_of (merge m.rows changes))
    from_statics = (
      record { precedes = refl; head = λ _. head-one m; statics = λ w. let u = w.short in absurd (cc); clustered = λ x _ w. let u = w.short in absurd (cc) },
      merged m.rows rows_sorted None (frag.Static m.statics) changes (λ x _. says_all x)
          (record { head = λ h. absurd (cc); statics = λ _. refl }) refl
          (before_rows (frag.Static m.statics) m.rows (λ x. refl)) (before_changes (frag.Static m.statics) changes (λ x. refl)) changes_sorted,
    )

    from_head : (b : Bool) → is_written m.statics ≡ b → AreFragmentsOf m None ((frag.Start m.pt ∷ cond b (frag.Static m.statics ∷ []) []) ++ tail_of (merge m.rows changes))
    from_head true e = from_statics
    from_head false e = from_start e

    pub are-stretches : AreFragmentsOf m None (fragments m)
    unfolding fragments
    are-stretches =
        subst (AreFragmentsOf m None)
        (ap (λ fs. (frag.Start m.pt ∷ static_fragment m.statics) ++ (fs ++ frag.End ∷ [])) (merge-in_order m.rows changes (rows-placed m.rows is.rows.ascend) (changes-placed m.ranges is.ranges))
        ∙ sym (append_assoc (frag.Start m.pt ∷ static_fragment m.statics) (in_order (list_map placed_row m.rows ++ list_map placed_change changes)) (frag.End ∷ [])))
        (from_head (is_written m.statics) refl)
