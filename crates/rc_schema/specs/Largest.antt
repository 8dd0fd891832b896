-- The largest objects of a schema: what no row that fits it passes.
use Rattle.std.specs.Prelude.{ℕ, ◌+◌, ◌*◌, List, [], ◌∷◌, length}
use Rattle.lsa_kinds.specs.Kinds.{up8}
use Rattle.rc_schema.specs.declared.kinds.CkKind.{CkKind}
use Rattle.rc_schema.specs.declared.kinds.CkKind.TheVariants.{Int, Text}
use Rattle.rc_schema.specs.SchemaValue.{SchemaValue}

-- the longest code of a component of the kind: of a number, or of a text of 64 bytes
abbrev pub component_size : CkKind → ℕ
component_size Int = 9
component_size Text = 66

-- the longest codes of components of the kinds, together
abbrev pub components_size : List CkKind → ℕ
components_size [] = 0
components_size (kind ∷ kinds) = component_size kind + components_size kinds

-- the longest code of a position: a weight, how many components, and these
abbrev pub position_size : List CkKind → ℕ
position_size kinds = 2 + components_size kinds

-- the longest codes of a cell of each of so many columns: its column, and a live cell of 256 bytes
abbrev pub cells_size : ℕ → ℕ
cells_size columns = 268 * columns

-- the largest entry: of the longest position, and a row with a marker, a tombstone and a live cell of each column
abbrev pub largest_entry : SchemaValue → ℕ
largest_entry s = up8 (80 + (position_size s.ck + (9 + (13 + (1 + cells_size (length s.cols))))))

-- the largest static row, which has no marker and no tombstone
abbrev pub largest_static : SchemaValue → ℕ
largest_static s = up8 (32 + (1 + (1 + (1 + cells_size (length s.statics)))))
