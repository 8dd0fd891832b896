-- The rows and changes of tombstone of a partition, one after another: the rule that each of them meets behind what stands before it.
--     IsCanonicalList     rows and changes that meet the rule, behind a place with a tombstone in force
--     IsMutationOf        a mutation has a partition tombstone, a static row, and such rows and changes
use Rattle.std.specs.Prelude.{◌≡◌, ◌≢◌, All, List, [], ◌∷◌, ◌++◌, Option, Some, None, IfSome, IsTrue, map as list_map}
use Rattle.rc_cell.specs.declared.rows.Row.{Row}
use Rattle.rc_cell.specs.declared.writes.Tomb.{Tomb}
use Rattle.rc_cell.specs.Columns.{ascending}
use Rattle.rc_cell.specs.Winner.{empty_row}
use Rattle.rc_position.specs.declared.positions.Pos.{Pos}
use Rattle.rc_position.specs.declared.positions.Weight.TheVariants.{At}
use Rattle.rc_position.specs.Position.{row_pos, IsBefore}
use Rattle.rc_ranges.specs.declared.pieces.Piece.{Piece}
use Rattle.rc_mutation.specs.declared.fragments.Frag.{Frag}
use Rattle.rc_mutation.specs.declared.fragments.Frag.TheVariants as frag
use Rattle.rc_mutation.specs.declared.mutations.Mutation.{Mutation}
use Rattle.rc_mutation.specs.Fragments.{fragments, rows_and_changes, static_fragment}
use Rattle.rc_mutation.specs.Source.{IsMutation}

-- a position comes behind the last one, if there is one
abbrev pub ComesNext : Option Pos → Pos → Type 0
ComesNext last x = IfSome last (λ l. IsBefore l x)

-- a position at which no row stands
abbrev pub IsBetweenRows : Pos → Type 0
IsBetweenRows x = x.weight ≢ At

-- rows and changes behind a last position, with a tombstone in force there: positions strictly ascend; of each row something was written, and
-- its cells ascend by column; a change stands between rows and has another tombstone than the one in force; at the end none is in force
abbrev pub IsCanonicalList : Option Tomb → Option Pos → List Frag → Type 0
IsCanonicalList tomb last [] = tomb ≡ None
IsCanonicalList tomb last (frag.Row key row ∷ fs) = ComesNext last (row_pos key) × (row ≢ empty_row) × IsTrue (ascending row.cells) × IsCanonicalList tomb (Some (row_pos key)) fs
IsCanonicalList tomb last (frag.Change x next ∷ fs) = ComesNext last x × IsBetweenRows x × (next ≢ tomb) × IsCanonicalList next (Some x) fs
IsCanonicalList tomb last (f ∷ fs) = ⊥

-- its range tombstones begin and end between rows
abbrev pub IsBounded : List Piece → Type 0
IsBounded pieces = All (λ p. IsBetweenRows p.from × IsBetweenRows p.to) pieces

-- a mutation with this partition tombstone, this static row, and these rows and changes, and so with these fragments
pub record IsMutationOf (m : Mutation) (tomb : Option Tomb) (row : Row) (between : List Frag) : Type 0 where
  pub is_mutation : IsMutation m
  pub is_bounded : IsBounded m.ranges
  pub pt : m.pt ≡ tomb
  pub statics : m.statics ≡ row
  pub rows_and_changes : rows_and_changes m ≡ between
  pub whole : fragments m ≡ (frag.Start tomb ∷ static_fragment row) ++ between ++ frag.End ∷ []
