-- The stream of the fragments of a mutation.
use Rattle.std.specs.Prelude.{◌≡◌, ℕ, ℤ, true, false, cond, List, [], ◌∷◌, ◌++◌, Option, Some, None, map as list_map}
use Rattle.std.proofs.Common.{refl, sym, ap, ◌∙◌}
use Rattle.std.specs.Ordering.{is_lt}
use Rattle.rc_cell.specs.declared.rows.Row.{Row}
use Rattle.rc_cell.specs.declared.writes.Tomb.{Tomb}
use Rattle.rc_cell.specs.declared.writes.Cell.{Cell}
use Rattle.rc_cell.specs.Winner.{empty_row}
use Rattle.rc_position.specs.declared.comps.Comp.{Comp}
use Rattle.rc_position.specs.declared.positions.Pos.{Pos}
use Rattle.rc_position.specs.Position.{pos_cmp, row_pos}
use Rattle.rc_mutation.specs.declared.fragments.Frag.{Frag}
use Rattle.rc_mutation.specs.declared.fragments.Frag.TheVariants as frag
use Rattle.rc_mutation.specs.declared.mutations.Mutation.{Mutation}
use Rattle.rc_mutation.specs.Fragments.{changes_of, fragments, in_order, is_written, placed_change, placed_row, static_fragment}
use Rattle.rc_mutation.specs.Source.{IsMutation}
use Rattle.rc_mutation.specs.laws.FragMerge.{merge, merge_into, merge-in_order, fragment_of, rows-placed, changes-placed}
use Rattle.rc_stream.specs.Stream.{Stream, without_head, clustered_front, is_clustered, static_of, stream_of}

abbrev Keyed : Type 0
Keyed = List Comp × Row

abbrev Change : Type 0
Change = Pos × Option Tomb

-- each is a row or a change
abbrev Inner : List Frag → Type 0
Inner [] = Unit {0}
Inner (f ∷ fs) = (is_clustered f ≡ true) × Inner fs

inner-changes : (bs : List Change) → Inner (list_map fragment_of (list_map placed_change bs))
inner-changes [] = tt
inner-changes (b ∷ bs) = (refl, inner-changes bs)

inner-rows : (os : List Keyed) → Inner (list_map fragment_of (list_map placed_row os))
inner-rows [] = tt
inner-rows (a ∷ os) = (refl, inner-rows os)

inner-merge_into : (a : Keyed) (os : List Keyed) → ((bs : List Change) → Inner (list_map fragment_of (merge os bs))) → (bs : List Change) → Inner (list_map fragment_of (merge_into a os (merge os) bs))
inner-merge_into a os ih [] = inner-rows (a ∷ os)
inner-merge_into a os ih (b ∷ bs) =
    elim (is_lt (pos_cmp (row_pos a.0) b.0)) as (λ r. Inner (list_map fragment_of (cond r (placed_row a ∷ merge os (b ∷ bs)) (placed_change b ∷ merge_into a os (merge os) bs)))) [
      | true ↦ (refl, ih (b ∷ bs))
      | false ↦ (refl, inner-merge_into a os ih bs)
    ]

inner-merge : (os : List Keyed) (bs : List Change) → Inner (list_map fragment_of (merge os bs))
inner-merge [] bs = inner-changes bs
inner-merge (a ∷ os) bs = inner-merge_into a os (inner-merge os) bs

clustered-inner : (fs : List Frag) → Inner fs → clustered_front (fs ++ frag.End ∷ []) ≡ fs
clustered-inner [] h = refl
clustered-inner (f ∷ fs) h = ap (λ b. cond b (f ∷ clustered_front (fs ++ frag.End ∷ [])) []) h.0 ∙ ap (λ l. f ∷ l) (clustered-inner fs h.1)

body-inner : (fs : List Frag) → Inner fs → without_head (fs ++ frag.End ∷ []) ≡ fs ++ frag.End ∷ []
body-inner [] h = refl
body-inner (frag.Start pt ∷ fs) h = absurd (let e = h.0 in cc)
body-inner (frag.Static row ∷ fs) h = absurd (let e = h.0 in cc)
body-inner (frag.Row key row ∷ fs) h = refl
body-inner (frag.Change from tomb ∷ fs) h = refl
body-inner (frag.End ∷ fs) h = refl

static-inner : (fs : List Frag) → Inner fs → static_of (fs ++ frag.End ∷ []) ≡ empty_row
static-inner [] h = refl
static-inner (frag.Start pt ∷ fs) h = absurd (let e = h.0 in cc)
static-inner (frag.Static row ∷ fs) h = absurd (let e = h.0 in cc)
static-inner (frag.Row key row ∷ fs) h = static-inner fs h.1
static-inner (frag.Change from tomb ∷ fs) h = static-inner fs h.1
static-inner (frag.End ∷ fs) h = absurd (let e = h.0 in cc)

abbrev pub stream : Option Tomb → Row → List Frag → Stream
stream pt statics left = record { head = record { pt = pt; statics = statics }; tomb = None; left = left }

abbrev same_row : Row → Row → Type 0
same_row a b = a ≡ b

unwritten_parts : (marker : Option ℤ) (tomb : Option Tomb) (cells : List (ℕ × Cell)) → is_written (record { marker = marker; tomb = tomb; cells = cells }) ≡ false → same_row (record { marker = marker; tomb = tomb; cells = cells }) empty_row
unwritten_parts None None [] h = refl
unwritten_parts None None (c ∷ cs) h = absurd (cc)
unwritten_parts None (Some t) cs h = absurd (cc)
unwritten_parts (Some n) t cs h = absurd (cc)

-- a row of which nothing was written is empty
unwritten : (row : Row) → is_written row ≡ false → row ≡ empty_row
unwritten row h = unwritten_parts row.marker row.tomb row.cells h

whole : (pt : Option Tomb) (row : Row) (fs : List Frag) → Inner fs → stream_of ((frag.Start pt ∷ static_fragment row) ++ fs ++ frag.End ∷ []) ≡ stream pt row fs
whole pt row fs h =
    let rest = fs ++ frag.End ∷ [] in
    let left : clustered_front (without_head rest) ≡ fs = ap clustered_front (body-inner fs h) ∙ clustered-inner fs h in
    elim (is_written row) as (λ b. is_written row ≡ b → stream_of (frag.Start pt ∷ ((cond b (frag.Static row ∷ []) [] ++ fs) ++ frag.End ∷ [])) ≡ stream pt row fs) [
      | true ↦ λ e. ap (stream pt row) left
      | false ↦ λ e. ap (λ r. stream pt r (clustered_front (without_head rest))) (static-inner fs h ∙ sym (unwritten row e)) ∙ ap (stream pt row) left
    ] refl

pub stream-of_fragments : (m : Mutation) → IsMutation m → stream_of (fragments m) ≡ stream m.pt m.statics (in_order (list_map placed_row m.rows ++ list_map placed_change (changes_of m.ranges)))
unfolding fragments
stream-of_fragments m is =
    let made = list_map fragment_of (merge m.rows (changes_of m.ranges)) in
    let same = merge-in_order m.rows (changes_of m.ranges) (rows-placed m.rows is.rows.ascend) (changes-placed m.ranges is.ranges) in
    ap (λ l. stream_of ((frag.Start m.pt ∷ static_fragment m.statics) ++ l ++ frag.End ∷ [])) (sym same)
    ∙ whole m.pt m.statics made (inner-merge m.rows (changes_of m.ranges))
    ∙ ap (stream m.pt m.statics) same
