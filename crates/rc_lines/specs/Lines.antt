-- The line of a command under a schema, for each command that one line can say.
use Rattle.std.specs.Prelude.{ℕ, ℤ, Bool, true, false, not, List, [], ◌∷◌, ◌++◌, map as list_map, slice_index_or, flat_map, codes, Option, Some, None, IfSome, IsTrue}
use Rattle.std.specs.Fmt.{decimal, signed_decimal}
use Rattle.std.specs.List.{AllByRecursion}
use Rattle.rc_cell.specs.declared.rows.Row.{Row}
use Rattle.rc_cell.specs.declared.writes.Cell.{Cell}
use Rattle.rc_cell.specs.declared.writes.Cell.TheVariants.{Live}
use Rattle.rc_cell.specs.declared.writes.Tomb.{Tomb}
use Rattle.rc_cell.specs.Winner.{IsRow}
use Rattle.rc_mutation.specs.declared.mutations.Mutation.{Mutation}
use Rattle.rc_position.specs.declared.comps.Comp.{Comp}
use Rattle.rc_position.specs.declared.positions.Pos.{Pos}
use Rattle.rc_position.specs.declared.positions.Weight.{Weight}
use Rattle.rc_position.specs.declared.positions.Weight.TheVariants.{Before, At, After}
use Rattle.rc_position.specs.Position.{IsBefore}
use Rattle.rc_ranges.specs.declared.pieces.Piece.{Piece}
use Rattle.rc_rowcode.specs.Spelling.{IsTomb}
use Rattle.rc_schema.specs.SchemaValue.{SchemaValue, is_schema}
use Rattle.rc_schema.specs.SchemaText.{schema_text}
use Rattle.rc_spelling.specs.Printed.{AreBytes, IsComponent, bytes_of_component, printed_bytes, key_text}
use Rattle.rc_lines.specs.declared.commands.Command.{Command}
use Rattle.rc_lines.specs.declared.commands.Command.TheVariants.{SetSchema, Put, OpenRead}
use Rattle.rc_lines.specs.declared.shapes.Bound.{Bound}
use Rattle.rc_lines.specs.declared.shapes.Change.{Change}
use Rattle.rc_lines.specs.declared.shapes.Change.TheVariants.{OfRow, OfStatic, OfRange, OfPartition}
use Rattle.rc_lines.specs.declared.shapes.Shape.TheVariants.{Open, Written}
use Rattle.rc_lines.specs.declared.shapes.Stamp.{Stamp}
use Rattle.rc_lines.specs.declared.shapes.Stamp.TheVariants.{Alive}
use Rattle.rc_lines.specs.Plain.{IsCount, HasCounts, plain_line}
use Rattle.rc_lines.specs.Sayable.{cell_stamp, shape_line, IsStampInRange, IsStamped}
use Rattle.rc_lines.specs.UnderSchema.{is_partition_key}

-- ---- the line

-- the bytes that spell each component
abbrev pub pieces_said : List Comp → List (List ℕ)
pieces_said prefix = list_map bytes_of_component prefix

-- whether a bound stands before the keys with its prefix
abbrev pub is_before : Weight → Bool
is_before Before = true
is_before At = false
is_before After = false

-- where a range begins: inclusive before the keys with its prefix
abbrev pub start_said : Pos → Bound
start_said x = record { pieces = pieces_said x.prefix; inclusive = is_before x.weight }

-- where a range ends: exclusive before them
abbrev pub end_said : Pos → Bound
end_said x = record { pieces = pieces_said x.prefix; inclusive = not (is_before x.weight) }

-- the name of a column by its number, nothing where the number is no column's
abbrev pub column_name : List (List ℕ) → ℕ → List ℕ
column_name names column = slice_index_or names column []

-- ` NAME=VALUE` of a column's value
abbrev pub value_text : List (List ℕ) → ℕ × List ℕ → List ℕ
value_text names shown = 32 ∷ (column_name names shown.0 ++ 61 ∷ printed_bytes shown.1)

-- each cell with the name of its column
abbrev pub cells_said : List (List ℕ) → List (ℕ × Cell) → List (List ℕ × Cell)
cells_said names cells = list_map (λ e. (column_name names e.0, e.1)) cells

-- what a line says of a write, by its parts: of the partition, or of a row, or of a range, or of the static row
abbrev pub parts_said : SchemaValue → Option Tomb → List (List Comp × Row) → List Piece → Row → Change
parts_said schema (Some tomb) rows ranges statics = OfPartition tomb
parts_said schema None (e ∷ rows) ranges statics = OfRow (pieces_said e.0) e.1.marker e.1.tomb (cells_said schema.cols e.1.cells)
parts_said schema None [] (range ∷ ranges) statics = OfRange (start_said range.from) (end_said range.to) range.tomb
parts_said schema None [] [] statics = OfStatic (cells_said schema.statics statics.cells)

-- what a line says of a write to one place
abbrev pub change_said : SchemaValue → Mutation → Change
change_said schema m = parts_said schema m.pt m.rows m.ranges m.statics

-- the line of a command, and none of a write that takes more than one line
abbrev pub command_line : SchemaValue → Command → Option (List ℕ)
command_line schema (SetSchema lists) = Some (codes "schema " ++ schema_text lists)
command_line schema (Put write) = shape_line (Written write.key (change_said schema write.change))
command_line schema (OpenRead id key slice) = shape_line (Open id key (start_said slice.from) (end_said slice.to))
command_line schema other = plain_line other

-- ` ts=TS dt=DT`
abbrev pub tomb_text : Tomb → List ℕ
tomb_text tomb = codes " ts=" ++ (signed_decimal tomb.ts ++ (codes " dt=" ++ decimal tomb.dt))

-- `delpart KEY ts=TS dt=DT`
abbrev pub delpart_text : List ℕ → Tomb → List ℕ
delpart_text key tomb = codes "delpart " ++ (printed_bytes key ++ tomb_text tomb)

-- `delete KEY CK ts=TS dt=DT`, the key as replies print it
abbrev pub delete_text : List ℕ → List Comp → Tomb → List ℕ
delete_text key ck tomb = codes "delete " ++ (printed_bytes key ++ 32 ∷ (key_text ck ++ tomb_text tomb))

-- `insert KEY CK ts=TS NAME=VALUE ..`, the key and the values as replies print them
abbrev pub insert_text : List (List ℕ) → List ℕ → List Comp → ℤ → List (ℕ × List ℕ) → List ℕ
insert_text names key ck ts values =
    codes "insert " ++ (printed_bytes key ++ 32 ∷ (key_text ck ++ (codes " ts=" ++ (signed_decimal ts ++ flat_map (value_text names) values))))

-- live cells of one timestamp, from columns with values
abbrev pub live_cells : ℤ → List (ℕ × List ℕ) → List (ℕ × Cell)
live_cells ts values = list_map (λ shown. (shown.0, Live ts shown.1)) values

-- a row of a tombstone alone
abbrev pub dead_row : Tomb → Row
dead_row tomb = record { marker = None; tomb = Some tomb; cells = [] }

-- a row with a marker and live cells of one timestamp
abbrev pub live_row : ℤ → List (ℕ × List ℕ) → Row
live_row ts values = record { marker = Some ts; tomb = None; cells = live_cells ts values }

-- ---- what one line can say

-- columns with values that are bytes
abbrev pub AreValues : List (ℕ × List ℕ) → Type 0
AreValues values = AllByRecursion (λ shown. AreBytes shown.1) values

-- a partition key: 1 to 64 bytes
abbrev pub IsPartitionKey : List ℕ → Type 0
IsPartitionKey key = AreBytes key × IsTrue (is_partition_key key)

-- numbers within 64 bits, and bytes
abbrev pub AreComponents : List Comp → Type 0
AreComponents prefix = AllByRecursion IsComponent prefix

-- cells of one stamp
abbrev pub AreStamped : Stamp → List (ℕ × Cell) → Type 0
AreStamped stamp cells = IsStampInRange stamp × AllByRecursion (λ e. IsStamped stamp e.1) cells

-- a marker and live cells have one timestamp; cells without a marker have one timestamp, and one deletion time or none
abbrev pub HasOneStamp : Option ℤ → Option Tomb → List (ℕ × Cell) → Type 0
HasOneStamp (Some ts) tomb cells = AreStamped (Alive ts) cells
HasOneStamp None (Some tomb) cells = IsTomb tomb
HasOneStamp None None [] = Unit {0}
HasOneStamp None None (e ∷ cells) = AreStamped (cell_stamp e.1) (e ∷ cells)

-- a row that is written at once
abbrev pub IsSayableRow : Row → Type 0
IsSayableRow row = IsRow row × HasOneStamp row.marker row.tomb row.cells

-- a write of which one line can say each part
pub record IsSayableWrite (m : Mutation) : Type 0 where
  pub pt : IfSome m.pt IsTomb
  pub statics : IsSayableRow m.statics
  pub rows : AllByRecursion (λ e. AreComponents e.0 × IsSayableRow e.1) m.rows
  pub ranges : AllByRecursion (λ q. IsBefore q.from q.to × (AreComponents q.from.prefix × (AreComponents q.to.prefix × IsTomb q.tomb))) m.ranges

-- a command that one line can say: numbers within their widths, bytes, and one stamp
abbrev pub IsSayableCommand : Command → Type 0
IsSayableCommand (SetSchema lists) = IsTrue (is_schema lists)
IsSayableCommand (Put write) = IsPartitionKey write.key × IsSayableWrite write.change
IsSayableCommand (OpenRead id key slice) = IsCount id × (IsPartitionKey key × (AreComponents slice.from.prefix × AreComponents slice.to.prefix))
IsSayableCommand other = HasCounts other
