-- The rows and changes of a mutation are a canonical list.
use Rattle.std.specs.Prelude.{All, IsTrue, ℕ, suc}
use Rattle.std.proofs.Common.{◌≡◌, ◌≢◌, true, false, cond, List, [], ◌∷◌, ◌++◌, Option, Some, None, refl, sym, ap, ◌∙◌, subst, T, arith, map as list_map}
use Rattle.std.specs.declared.cmp.Ordering.{Ordering}
use Rattle.std.specs.declared.cmp.Ordering.TheVariants.{Less, Equal, Greater}
use Rattle.std.specs.Ordering.{is_lt, is_gt, is_eq, eq_by_cmp, ordering_reverse}
use Rattle.std.specs.FinMap.{is_sorted}
use Rattle.std.specs.FinMap.Entries.{below_all}
use Rattle.rc_cell.specs.declared.writes.Tomb.{Tomb}
use Rattle.rc_cell.specs.laws.ByColumn.{test_of, first, second}
use Rattle.rc_cell.specs.Columns.{ascending}
use Rattle.rc_cell.specs.Winner.{empty_row}
use Rattle.rc_position.specs.declared.comps.Comp.{Comp}
use Rattle.rc_position.specs.declared.positions.Pos.{Pos}
use Rattle.rc_position.specs.Position.{key_cmp, pos_cmp, row_pos, IsBefore}
use Rattle.rc_position.specs.laws.Orders.{pos_cmp_total, pos_cmp_same}
use Rattle.rc_ranges.specs.declared.pieces.Piece.{Piece}
use Rattle.rc_ranges.specs.Cover.{IsCanonical}
use Rattle.rc_mutation.specs.declared.fragments.Frag.{Frag}
use Rattle.rc_mutation.specs.declared.mutations.Mutation.{Mutation}
use Rattle.rc_mutation.specs.Fragments.{begins_at, changes_of, placed_change, placed_row, rows_and_changes}
use Rattle.rc_mutation.specs.Source.{IsMutation}
use Rattle.rc_mutation.specs.laws.FragMerge.{merge, merge_into, merge-nil, merge-in_order, fragment_of, rows-placed, changes-placed}
use Rattle.rc_mutation.specs.Canonical.{ComesNext, IsBetweenRows, IsBounded, IsCanonicalList}
use Rattle.rc_mutation.specs.laws.CanonicalMerging.{Keyed, Change, IsChanges}

some_none : (t : Tomb) → Some t ≢ None
some_none t e = cc

none_some : (t : Tomb) → None ≢ Some t
none_some t e = cc

same_some : (s t : Tomb) → Some s ≡ Some t → s ≡ t
same_some s t e = cc

less : (r : Ordering) → T (is_lt r) → r ≡ Less
less Less h = refl
less Equal h = absurd h
less Greater h = absurd h

tie : (r : Ordering) → is_eq r ≡ true → r ≡ Equal
tie Less e = absurd (cc)
tie Equal e = refl
tie Greater e = absurd (cc)

-- a position that is not behind another nor at it is before it
before : (x y : Pos) → is_gt (pos_cmp x y) ≡ false → eq_by_cmp pos_cmp y x ≡ false → IsBefore x y
before x y g e =
    elim (pos_cmp x y) as (λ r. is_gt r ≡ false → is_eq (ordering_reverse r) ≡ false → r ≡ Less) [
      | Less ↦ λ _ _. refl
      | Equal ↦ λ _ f. absurd (cc)
      | Greater ↦ λ f _. absurd (cc)
    ] g (sym (ap is_eq (pos_cmp_total.antisymm y x)) ∙ e)

-- ---- the changes of canonical pieces

-- the first piece begins behind a last position
abbrev StartsAfter : Option Pos → List Piece → Type 0
StartsAfter last [] = Unit {0}
StartsAfter last (p ∷ ps) = ComesNext last p.from

changes-canonical : (last : Option Pos) (ps : List Piece) → IsCanonical ps → StartsAfter last ps → IsChanges None last (changes_of ps)
changes-canonical last [] is h = refl
changes-canonical last (p ∷ []) is h = (h, some_none p.tomb, (is.0, none_some p.tomb, refl))
changes-canonical last (p ∷ (q ∷ qs)) is h = (
  h,
  some_none p.tomb,
  elim (eq_by_cmp pos_cmp q.from p.to) as (λ b. eq_by_cmp pos_cmp q.from p.to ≡ b → IsChanges (Some p.tomb) (Some p.from) (cond b [] ((p.to, None) ∷ []) ++ changes_of (q ∷ qs))) [
    | true ↦ λ e.
        let meet : q.from ≡ p.to = pos_cmp_same q.from p.to (tie (pos_cmp q.from p.to) e) in
        let rest = changes-canonical (Some p.from) (q ∷ qs) is.2 (subst (IsBefore p.from) (sym meet) is.0) in
        (rest.0, λ same. is.1.1 (sym meet) (same_some p.tomb q.tomb (sym same)), rest.2)
    | false ↦ λ e. (is.0, none_some p.tomb, changes-canonical (Some p.to) (q ∷ qs) is.2 (before p.to q.from is.1.0 e))
  ] refl,
)

-- changes that stand between rows
abbrev AreBetween : List Change → Type 0
AreBetween [] = Unit {0}
AreBetween (c ∷ cs) = IsBetweenRows c.0 × AreBetween cs

between-changes : (ps : List Piece) → IsBounded ps → AreBetween (changes_of ps)
between-changes [] h = tt
between-changes (p ∷ ps) h =
    let rest = between-changes ps (λ k d l. h (suc k) d (omega arith)) in (
      (h 0 p (omega arith)).0,
      elim (begins_at p.to ps) as (λ b. AreBetween (cond b [] ((p.to, None) ∷ []) ++ changes_of ps)) [
        | true ↦ rest
        | false ↦ ((h 0 p (omega arith)).1, rest)
      ],
    )

-- ---- the rows of a mutation

-- rows behind a last position, by the rule
abbrev AreRows : Option Pos → List Keyed → Type 0
AreRows last [] = Unit {0}
AreRows last (a ∷ os) = ComesNext last (row_pos a.0) × (a.1 ≢ empty_row) × IsTrue (ascending a.1.cells) × AreRows (Some (row_pos a.0)) os

-- the first row stands behind a last position
abbrev FirstAfter : Option Pos → List Keyed → Type 0
FirstAfter last [] = Unit {0}
FirstAfter last (a ∷ os) = ComesNext last (row_pos a.0)

first_of_all : (os : List Keyed) → FirstAfter None os
first_of_all [] = tt
first_of_all (a ∷ os) = tt

next_row : (k : List Comp) (os : List Keyed) → T (below_all key_cmp k os) → FirstAfter (Some (row_pos k)) os
next_row k [] h = tt
next_row k (o ∷ os) h = less (key_cmp k o.0) (first (is_lt (key_cmp k o.0)) (below_all key_cmp k os) h)

rows-listed : (last : Option Pos) (os : List Keyed) → FirstAfter last os → T (is_sorted key_cmp os) → All (λ e. e.1 ≢ empty_row) os → All (λ e. IsTrue (ascending e.1.cells)) os → AreRows last os
rows-listed last [] f h w c = tt
rows-listed last (a ∷ os) f h w c = (
  f,
  w 0 a (omega arith),
  c 0 a (omega arith),
  rows-listed (Some (row_pos a.0)) os
      (next_row a.0 os (first (below_all key_cmp a.0 os) (is_sorted key_cmp os) h))
      (second (below_all key_cmp a.0 os) (is_sorted key_cmp os) h)
      (λ k d l. w (suc k) d (omega arith))
      (λ k d l. c (suc k) d (omega arith)),
)

-- ---- both merged

-- whatever tombstone was in force and whatever stood last: where rows and changes may come behind it, the merged list is canonical
abbrev Lists : List Keyed → List Change → List ((Pos × ℕ) × Frag) → Type 0
Lists os bs ms = (tomb : Option Tomb) (last : Option Pos) → AreRows last os → IsChanges tomb last bs → AreBetween bs → IsCanonicalList tomb last (list_map fragment_of ms)

changes-listed : (bs : List Change) → Lists [] bs (list_map placed_change bs)
changes-listed [] tomb last r h w = h
changes-listed (b ∷ bs) tomb last r h w = (h.0, w.0, h.1, changes-listed bs b.1 (Some b.0) tt h.2 w.1)

-- a change between rows that is not behind a row is before it
change_before : (k : List Comp) (x : Pos) → IsBetweenRows x → is_lt (pos_cmp (row_pos k) x) ≡ false → IsBefore x (row_pos k)
change_before k x w e =
    elim (pos_cmp (row_pos k) x) as (λ r. pos_cmp (row_pos k) x ≡ r → is_lt r ≡ false → IsBefore x (row_pos k)) [
      | Less ↦ λ _ f. absurd (cc)
      | Equal ↦ λ f _. absurd (w (ap (λ (y : Pos). y.weight) (sym (pos_cmp_same (row_pos k) x f))))
      | Greater ↦ λ f _. pos_cmp_total.antisymm x (row_pos k) ∙ ap ordering_reverse f
    ] refl e

merge_into-listed : (a : Keyed) (os : List Keyed) → ((bs : List Change) → Lists os bs (merge os bs)) → (bs : List Change) → Lists (a ∷ os) bs (merge_into a os (merge os) bs)
merge_into-listed a os ih [] tomb last r h w =
    (r.0, r.1, r.2, subst (λ es. IsCanonicalList tomb (Some (row_pos a.0)) (list_map fragment_of es)) (merge-nil os) (ih [] tomb (Some (row_pos a.0)) r.3 h tt))
merge_into-listed a os ih (b ∷ bs) tomb last r h w =
    elim (is_lt (pos_cmp (row_pos a.0) b.0)) as (λ t. is_lt (pos_cmp (row_pos a.0) b.0) ≡ t → IsCanonicalList tomb last (list_map fragment_of (cond t (placed_row a ∷ merge os (b ∷ bs)) (placed_change b ∷ merge_into a os (merge os) bs)))) [
      | true ↦ λ e. (r.0, r.1, r.2, ih (b ∷ bs) tomb (Some (row_pos a.0)) r.3 (less (pos_cmp (row_pos a.0) b.0) (test_of _ e), h.1, h.2) w)
      | false ↦ λ e. (h.0, w.0, h.1, merge_into-listed a os ih bs b.1 (Some b.0) (change_before a.0 b.0 w.0 e, r.1, r.2, r.3) h.2 w.1)
    ] refl

merge-listed : (os : List Keyed) (bs : List Change) → Lists os bs (merge os bs)
merge-listed [] bs = changes-listed bs
merge-listed (a ∷ os) bs = merge_into-listed a os (merge-listed os) bs

starts_after_none : (ps : List Piece) → StartsAfter None ps
starts_after_none [] = tt
starts_after_none (p ∷ ps) = tt

-- the rows and changes of a mutation whose range tombstones begin and end between rows are a canonical list
pub listed : (m : Mutation) → IsMutation m → IsBounded m.ranges → IsCanonicalList None None (rows_and_changes m)
listed m is bounded =
    subst (IsCanonicalList None None)
    (merge-in_order m.rows (changes_of m.ranges) (rows-placed m.rows is.rows.ascend) (changes-placed m.ranges is.ranges))
    (merge-listed m.rows (changes_of m.ranges) None None
    (rows-listed None m.rows (first_of_all m.rows) (test_of _ is.rows.ascend) is.rows.written is.rows.by_column)
    (changes-canonical None m.ranges is.ranges (starts_after_none m.ranges))
    (between-changes m.ranges bounded))
