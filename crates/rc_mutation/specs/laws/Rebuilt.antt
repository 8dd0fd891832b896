-- A canonical list is that of the mutation of its rows and of the pieces between its changes.
use Rattle.std.specs.Prelude.{◌≡◌, ◌≢◌, zero, suc, All, IsTrue, List, [], ◌∷◌, ◌++◌, Option, Some, None, map as list_map}
use Rattle.std.proofs.Common.{ap, sym, refl, ◌∙◌, arith}
use Rattle.rc_cell.specs.declared.rows.Row.{Row}
use Rattle.rc_cell.specs.declared.writes.Tomb.{Tomb}
use Rattle.rc_cell.specs.laws.ByColumn.{holds}
use Rattle.rc_cell.specs.Columns.{ascending}
use Rattle.rc_cell.specs.Winner.{empty_row}
use Rattle.rc_position.specs.declared.comps.Comp.{Comp}
use Rattle.rc_position.specs.declared.positions.Pos.{Pos}
use Rattle.rc_position.specs.Position.{row_pos}
use Rattle.rc_mutation.specs.declared.fragments.Frag.{Frag}
use Rattle.rc_mutation.specs.declared.fragments.Frag.TheVariants as frag
use Rattle.rc_mutation.specs.declared.mutations.Mutation.{Mutation}
use Rattle.rc_mutation.specs.Statics.{has_cells_alone}
use Rattle.rc_mutation.specs.Fragments.{changes_of, fragments, static_fragment, rows_and_changes}
use Rattle.rc_mutation.specs.Rows.{IsRows}
use Rattle.rc_mutation.specs.laws.FragMerge.{merge, merge-in_order, fragment_of, rows-placed, changes-placed}
use Rattle.rc_mutation.specs.Canonical.{IsBetweenRows, IsCanonicalList, IsMutationOf}
use Rattle.rc_mutation.specs.laws.CanonicalMerging.{Change, rows_in, changes_in, changes-are, rows-sorted, merged}
use Rattle.rc_mutation.specs.laws.CanonicalPieces.{pieces_from, pieces_in, changes-pieces, canonical-pieces}

-- what holds of each key and row of which something was written, and whose cells ascend, holds of all rows of a canonical list
pub all-rows : (P : List Comp × Row → Type 0) → ((key : List Comp) (row : Row) → row ≢ empty_row → IsTrue (ascending row.cells) → P (key, row)) → (tomb : Option Tomb) (last : Option Pos) (fs : List Frag) → IsCanonicalList tomb last fs → All P (rows_in fs)
all-rows P f tomb last [] h k d lt = absurd (omega arith)
all-rows P f tomb last (frag.Start pt ∷ fs) h k d lt = absurd h
all-rows P f tomb last (frag.Static row ∷ fs) h k d lt = absurd h
all-rows P f tomb last (frag.Row key row ∷ fs) h zero d lt = f key row h.1 h.2
all-rows P f tomb last (frag.Row key row ∷ fs) h (suc k) d lt = all-rows P f tomb (Some (row_pos key)) fs h.3 k d (omega arith)
all-rows P f tomb last (frag.Change x next ∷ fs) h k d lt = all-rows P f next (Some x) fs h.3 k d lt
all-rows P f tomb last (frag.End ∷ fs) h k d lt = absurd h

-- its changes stand between rows
pub all-changes : (tomb : Option Tomb) (last : Option Pos) (fs : List Frag) → IsCanonicalList tomb last fs → All (λ c. IsBetweenRows c.0) (changes_in fs)
all-changes tomb last [] h k d lt = absurd (omega arith)
all-changes tomb last (frag.Start pt ∷ fs) h k d lt = absurd h
all-changes tomb last (frag.Static row ∷ fs) h k d lt = absurd h
all-changes tomb last (frag.Row key row ∷ fs) h k d lt = all-changes tomb (Some (row_pos key)) fs h.3 k d lt
all-changes tomb last (frag.Change x next ∷ fs) h zero d lt = h.1
all-changes tomb last (frag.Change x next ∷ fs) h (suc k) d lt = all-changes next (Some x) fs h.3 k d (omega arith)
all-changes tomb last (frag.End ∷ fs) h k d lt = absurd h

bounds-from : (P : Pos → Type 0) (x : Pos) (s : Option Tomb) (cs : List Change) → P x → All (λ c. P c.0) cs → All (λ p. P p.from × P p.to) (pieces_from x s cs)
bounds-from P x s [] p h k d lt = absurd (omega arith)
bounds-from P x None (c ∷ cs) p h k d lt = bounds-from P c.0 c.1 cs (h 0 c (omega arith)) (λ j e l. h (suc j) e (omega arith)) k d lt
bounds-from P x (Some t) (c ∷ cs) p h zero d lt = (p, h 0 c (omega arith))
bounds-from P x (Some t) (c ∷ cs) p h (suc k) d lt = bounds-from P c.0 c.1 cs (h 0 c (omega arith)) (λ j e l. h (suc j) e (omega arith)) k d (omega arith)

-- what holds of the positions of changes holds of where the pieces between them begin and end
pub bounds-pieces : (P : Pos → Type 0) (cs : List Change) → All (λ c. P c.0) cs → All (λ p. P p.from × P p.to) (pieces_in cs)
bounds-pieces P [] h k d lt = absurd (omega arith)
bounds-pieces P (c ∷ cs) h k d lt = bounds-from P c.0 c.1 cs (h 0 c (omega arith)) (λ j e l. h (suc j) e (omega arith)) k d lt

-- the mutation of a list of rows and changes
abbrev pub mutation_of : Option Tomb → Row → List Frag → Mutation
mutation_of tomb row fs = record { pt = tomb; statics = row; rows = rows_in fs; ranges = pieces_in (changes_in fs) }

pub rows-are : (tomb : Option Tomb) (last : Option Pos) (fs : List Frag) → IsCanonicalList tomb last fs → IsRows (rows_in fs)
rows-are tomb last fs h = record {
  ascend = holds _ (rows-sorted tomb last fs h);
  written = all-rows (λ e. e.1 ≢ empty_row) (λ key row w c. w) tomb last fs h;
  by_column = all-rows (λ e. IsTrue (ascending e.1.cells)) (λ key row w c. c) tomb last fs h;
}

pub whole-of : (m : Mutation) (fs : List Frag) → rows_and_changes m ≡ fs → fragments m ≡ (frag.Start m.pt ∷ static_fragment m.statics) ++ fs ++ frag.End ∷ []
unfolding fragments
whole-of m fs e = ap (λ between. (frag.Start m.pt ∷ static_fragment m.statics) ++ between ++ frag.End ∷ []) e

-- each canonical list is that of a mutation, with each static row of cells alone
pub rebuilt : (tomb : Option Tomb) (row : Row) (fs : List Frag) → IsTrue (ascending row.cells) → IsTrue (has_cells_alone row) → IsCanonicalList None None fs → IsMutationOf (mutation_of tomb row fs) tomb row fs
rebuilt tomb row fs up alone h =
    let changes = changes-are None None fs h in
    let rows = rows-are None None fs h in
    let ranges = canonical-pieces (changes_in fs) changes in
    let same = changes-pieces (changes_in fs) changes in
    let between : rows_and_changes (mutation_of tomb row fs) ≡ fs =
    sym (merge-in_order (rows_in fs) (changes_of (pieces_in (changes_in fs))) (rows-placed (rows_in fs) rows.ascend) (changes-placed (pieces_in (changes_in fs)) ranges))
    ∙ ap (λ cs. list_map fragment_of (merge (rows_in fs) cs)) same
    ∙ merged None None fs h in
    record {
      is_mutation = record { alone = alone; statics = up; rows = rows; ranges = ranges };
      is_bounded = bounds-pieces IsBetweenRows (changes_in fs) (all-changes None None fs h);
      pt = refl;
      statics = refl;
      rows_and_changes = between;
      whole = whole-of (mutation_of tomb row fs) fs between;
    }

-- each canonical list is that of a mutation, with each static row of cells alone
pub is-rebuilt : (tomb : Option Tomb) (row : Row) (fs : List Frag) → IsTrue (ascending row.cells) → IsTrue (has_cells_alone row) → IsCanonicalList None None fs → (m : Mutation) × IsMutationOf m tomb row fs
is-rebuilt tomb row fs up alone h = (mutation_of tomb row fs, rebuilt tomb row fs up alone h)
