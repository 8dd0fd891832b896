-- A mutation is known by its fragments.
use Rattle.std.proofs.Common.{◌≡◌, Bool, true, false, cond, ◌||◌, is_some, List, [], ◌∷◌, ◌++◌, Option, Some, None, refl, sym, ap, ◌∙◌, map as list_map}
use Rattle.std.specs.declared.cmp.Ordering.{Ordering}
use Rattle.std.specs.declared.cmp.Ordering.TheVariants.{Less, Equal, Greater}
use Rattle.std.specs.Ordering.{is_lt, is_eq, eq_by_cmp}
use Rattle.rc_cell.specs.declared.rows.Row.{Row}
use Rattle.rc_cell.specs.declared.writes.Tomb.{Tomb}
use Rattle.rc_cell.specs.Winner.{empty_row}
use Rattle.rc_position.specs.Position.{pos_cmp, row_pos}
use Rattle.rc_position.specs.laws.Orders.{pos_cmp_same}
use Rattle.rc_ranges.specs.declared.pieces.Piece.{Piece}
use Rattle.rc_mutation.specs.declared.fragments.Frag.{Frag}
use Rattle.rc_mutation.specs.declared.fragments.Frag.TheVariants as frag
use Rattle.rc_mutation.specs.declared.mutations.Mutation.{Mutation}
use Rattle.rc_mutation.specs.Fragments.{changes_of, fragments, has_any, is_written, placed_change, placed_row, rows_and_changes}
use Rattle.rc_mutation.specs.Source.{IsMutation}
use Rattle.rc_mutation.specs.laws.Written.{unwritten}
use Rattle.rc_mutation.specs.laws.FragMerge.{merge, merge_into, merge-in_order, fragment_of, rows-placed, changes-placed}
use Rattle.rc_mutation.specs.Canonical.{IsMutationOf}
use Rattle.rc_mutation.specs.laws.CanonicalMerging.{Keyed, Change, rows_in, changes_in}
use Rattle.rc_mutation.specs.laws.CanonicalPieces.{pieces_in, pieces_from}

-- ---- rows and changes of both merged

rows_in-changes : (bs : List Change) → rows_in (list_map fragment_of (list_map placed_change bs)) ≡ []
rows_in-changes [] = refl
rows_in-changes (b ∷ bs) = rows_in-changes bs

rows_in-rows : (os : List Keyed) → rows_in (list_map fragment_of (list_map placed_row os)) ≡ os
rows_in-rows [] = refl
rows_in-rows (a ∷ os) = ap (λ es. a ∷ es) (rows_in-rows os)

rows_in-merge_into : (a : Keyed) (os : List Keyed) → ((bs : List Change) → rows_in (list_map fragment_of (merge os bs)) ≡ os) → (bs : List Change) → rows_in (list_map fragment_of (merge_into a os (merge os) bs)) ≡ a ∷ os
rows_in-merge_into a os ih [] = ap (λ es. a ∷ es) (rows_in-rows os)
rows_in-merge_into a os ih (b ∷ bs) =
    elim (is_lt (pos_cmp (row_pos a.0) b.0)) as (λ t. rows_in (list_map fragment_of (cond t (placed_row a ∷ merge os (b ∷ bs)) (placed_change b ∷ merge_into a os (merge os) bs))) ≡ a ∷ os) [
      | true ↦ ap (λ es. a ∷ es) (ih (b ∷ bs))
      | false ↦ rows_in-merge_into a os ih bs
    ]

rows_in-merge : (os : List Keyed) (bs : List Change) → rows_in (list_map fragment_of (merge os bs)) ≡ os
rows_in-merge [] bs = rows_in-changes bs
rows_in-merge (a ∷ os) bs = rows_in-merge_into a os (rows_in-merge os) bs

changes_in-changes : (bs : List Change) → changes_in (list_map fragment_of (list_map placed_change bs)) ≡ bs
changes_in-changes [] = refl
changes_in-changes (b ∷ bs) = ap (λ cs. b ∷ cs) (changes_in-changes bs)

changes_in-rows : (os : List Keyed) → changes_in (list_map fragment_of (list_map placed_row os)) ≡ []
changes_in-rows [] = refl
changes_in-rows (a ∷ os) = changes_in-rows os

changes_in-merge_into : (a : Keyed) (os : List Keyed) → ((bs : List Change) → changes_in (list_map fragment_of (merge os bs)) ≡ bs) → (bs : List Change) → changes_in (list_map fragment_of (merge_into a os (merge os) bs)) ≡ bs
changes_in-merge_into a os ih [] = changes_in-rows os
changes_in-merge_into a os ih (b ∷ bs) =
    elim (is_lt (pos_cmp (row_pos a.0) b.0)) as (λ t. changes_in (list_map fragment_of (cond t (placed_row a ∷ merge os (b ∷ bs)) (placed_change b ∷ merge_into a os (merge os) bs))) ≡ b ∷ bs) [
      | true ↦ ih (b ∷ bs)
      | false ↦ ap (λ cs. b ∷ cs) (changes_in-merge_into a os ih bs)
    ]

changes_in-merge : (os : List Keyed) (bs : List Change) → changes_in (list_map fragment_of (merge os bs)) ≡ bs
changes_in-merge [] bs = changes_in-changes bs
changes_in-merge (a ∷ os) bs = changes_in-merge_into a os (changes_in-merge os) bs

-- ---- the pieces between the changes of pieces are these

tie : (r : Ordering) → is_eq r ≡ true → r ≡ Equal
tie Less e = absurd (cc)
tie Equal e = refl
tie Greater e = absurd (cc)

pub pieces-changes : (ps : List Piece) → pieces_in (changes_of ps) ≡ ps
pieces-changes [] = refl
pieces-changes (p ∷ []) = refl
pieces-changes (p ∷ (q ∷ qs)) =
    let rest : pieces_in (changes_of (q ∷ qs)) ≡ q ∷ qs = pieces-changes (q ∷ qs) in
    elim (eq_by_cmp pos_cmp q.from p.to) as (λ b. eq_by_cmp pos_cmp q.from p.to ≡ b → pieces_from p.from (Some p.tomb) (cond b [] ((p.to, None) ∷ []) ++ changes_of (q ∷ qs)) ≡ p ∷ q ∷ qs) [
      | true ↦ λ e.
          let meet : q.from ≡ p.to = pos_cmp_same q.from p.to (tie (pos_cmp q.from p.to) e) in
          λ i. record { from = p.from; to = meet i; tomb = p.tomb } ∷ rest i
      | false ↦ λ e. ap (λ ps. p ∷ ps) rest
    ] refl

-- ---- the rows and changes of a mutation

merged-is : (m : Mutation) → IsMutation m → list_map fragment_of (merge m.rows (changes_of m.ranges)) ≡ rows_and_changes m
merged-is m is = merge-in_order m.rows (changes_of m.ranges) (rows-placed m.rows is.rows.ascend) (changes-placed m.ranges is.ranges)

pub rows_in-clustered : (m : Mutation) → IsMutation m → rows_in (rows_and_changes m) ≡ m.rows
rows_in-clustered m is = ap rows_in (sym (merged-is m is)) ∙ rows_in-merge m.rows (changes_of m.ranges)

pub pieces_in-clustered : (m : Mutation) → IsMutation m → pieces_in (changes_in (rows_and_changes m)) ≡ m.ranges
pieces_in-clustered m is = ap (λ fs. pieces_in (changes_in fs)) (sym (merged-is m is)) ∙ ap pieces_in (changes_in-merge m.rows (changes_of m.ranges)) ∙ pieces-changes m.ranges

-- mutations with the same rows and changes have the same rows and ranges
pub same_clustered : (m n : Mutation) → IsMutation m → IsMutation n → rows_and_changes m ≡ rows_and_changes n → (m.rows ≡ n.rows) × (m.ranges ≡ n.ranges)
same_clustered m n g h e =
    (sym (rows_in-clustered m g) ∙ ap rows_in e ∙ rows_in-clustered n h, sym (pieces_in-clustered m g) ∙ ap (λ fs. pieces_in (changes_in fs)) e ∙ pieces_in-clustered n h)

-- ---- all its fragments

-- the partition tombstone at the start of fragments
abbrev head_of : List Frag → Option Tomb
head_of [] = None
head_of (frag.Start pt ∷ fs) = pt
head_of (frag.Static row ∷ fs) = None
head_of (frag.Row key row ∷ fs) = None
head_of (frag.Change x next ∷ fs) = None
head_of (frag.End ∷ fs) = None

-- the static row among fragments, the empty one where there is none
abbrev static_in : List Frag → Row
static_in [] = empty_row
static_in (frag.Start pt ∷ fs) = static_in fs
static_in (frag.Static row ∷ fs) = row
static_in (frag.Row key row ∷ fs) = static_in fs
static_in (frag.Change x next ∷ fs) = static_in fs
static_in (frag.End ∷ fs) = static_in fs

-- fragments, and the end behind them
abbrev ended : List Frag → List Frag
ended fs = fs ++ frag.End ∷ []

rows_in-ended : (fs : List Frag) → rows_in (ended fs) ≡ rows_in fs
rows_in-ended [] = refl
rows_in-ended (frag.Start pt ∷ fs) = rows_in-ended fs
rows_in-ended (frag.Static row ∷ fs) = rows_in-ended fs
rows_in-ended (frag.Row key row ∷ fs) = ap (λ es. (key, row) ∷ es) (rows_in-ended fs)
rows_in-ended (frag.Change x next ∷ fs) = rows_in-ended fs
rows_in-ended (frag.End ∷ fs) = rows_in-ended fs

changes_in-ended : (fs : List Frag) → changes_in (ended fs) ≡ changes_in fs
changes_in-ended [] = refl
changes_in-ended (frag.Start pt ∷ fs) = changes_in-ended fs
changes_in-ended (frag.Static row ∷ fs) = changes_in-ended fs
changes_in-ended (frag.Row key row ∷ fs) = changes_in-ended fs
changes_in-ended (frag.Change x next ∷ fs) = ap (λ cs. (x, next) ∷ cs) (changes_in-ended fs)
changes_in-ended (frag.End ∷ fs) = changes_in-ended fs

static_in-changes : (bs : List Change) → static_in (ended (list_map fragment_of (list_map placed_change bs))) ≡ empty_row
static_in-changes [] = refl
static_in-changes (b ∷ bs) = static_in-changes bs

static_in-rows : (os : List Keyed) → static_in (ended (list_map fragment_of (list_map placed_row os))) ≡ empty_row
static_in-rows [] = refl
static_in-rows (a ∷ os) = static_in-rows os

static_in-merge_into : (a : Keyed) (os : List Keyed) → ((bs : List Change) → static_in (ended (list_map fragment_of (merge os bs))) ≡ empty_row) → (bs : List Change) → static_in (ended (list_map fragment_of (merge_into a os (merge os) bs))) ≡ empty_row
static_in-merge_into a os ih [] = static_in-rows os
static_in-merge_into a os ih (b ∷ bs) =
    elim (is_lt (pos_cmp (row_pos a.0) b.0)) as (λ t. static_in (ended (list_map fragment_of (cond t (placed_row a ∷ merge os (b ∷ bs)) (placed_change b ∷ merge_into a os (merge os) bs)))) ≡ empty_row) [
      | true ↦ ih (b ∷ bs)
      | false ↦ static_in-merge_into a os ih bs
    ]

static_in-merge : (os : List Keyed) (bs : List Change) → static_in (ended (list_map fragment_of (merge os bs))) ≡ empty_row
static_in-merge [] bs = static_in-changes bs
static_in-merge (a ∷ os) bs = static_in-merge_into a os (static_in-merge os) bs

head_of-fragments : (m : Mutation) → head_of (fragments m) ≡ m.pt
unfolding fragments
head_of-fragments m = refl

static_in-fragments : (m : Mutation) → IsMutation m → static_in (fragments m) ≡ m.statics
unfolding fragments
static_in-fragments m is =
    elim (is_written m.statics) as (λ b. is_written m.statics ≡ b → static_in (ended (cond b (frag.Static m.statics ∷ []) [] ++ rows_and_changes m)) ≡ m.statics) [
      | true ↦ λ _. refl
      | false ↦ λ e. ap (λ fs. static_in (ended fs)) (sym (merged-is m is)) ∙ static_in-merge m.rows (changes_of m.ranges) ∙ sym (unwritten m.statics e)
    ] refl

rows_in-fragments : (m : Mutation) → IsMutation m → rows_in (fragments m) ≡ m.rows
unfolding fragments
rows_in-fragments m is =
    let rows = rows_in-ended (rows_and_changes m) ∙ rows_in-clustered m is in
    elim (is_written m.statics) as (λ b. rows_in (ended (cond b (frag.Static m.statics ∷ []) [] ++ rows_and_changes m)) ≡ m.rows) [ true ↦ rows | false ↦ rows ]

pieces_in-fragments : (m : Mutation) → IsMutation m → pieces_in (changes_in (fragments m)) ≡ m.ranges
unfolding fragments
pieces_in-fragments m is =
    let ranges = ap pieces_in (changes_in-ended (rows_and_changes m)) ∙ pieces_in-clustered m is in
    elim (is_written m.statics) as (λ b. pieces_in (changes_in (ended (cond b (frag.Static m.statics ∷ []) [] ++ rows_and_changes m))) ≡ m.ranges) [ true ↦ ranges | false ↦ ranges ]

-- mutations with the same fragments are equal
pub same_fragments : (m n : Mutation) → IsMutation m → IsMutation n → fragments m ≡ fragments n → m ≡ n
same_fragments m n g h e =
    let pt = sym (head_of-fragments m) ∙ ap head_of e ∙ head_of-fragments n in
    let statics = sym (static_in-fragments m g) ∙ ap static_in e ∙ static_in-fragments n h in
    let rows = sym (rows_in-fragments m g) ∙ ap rows_in e ∙ rows_in-fragments n h in
    let ranges = sym (pieces_in-fragments m g) ∙ ap (λ fs. pieces_in (changes_in fs)) e ∙ pieces_in-fragments n h in
    λ i. record { pt = pt i; statics = statics i; rows = rows i; ranges = ranges i }

-- a list is that of one mutation
pub same_list : (tomb : Option Tomb) (row : Row) (fs : List Frag) (m n : Mutation) → IsMutationOf m tomb row fs → IsMutationOf n tomb row fs → m ≡ n
same_list tomb row fs m n g h = same_fragments m n g.is_mutation h.is_mutation (g.whole ∙ sym h.whole)
