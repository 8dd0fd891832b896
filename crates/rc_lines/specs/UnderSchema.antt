-- What the parts of a line mean under a schema: keys, slices and columns, and the commands that are made of them, or the first cause why they are refused.
use Rattle.std.specs.Prelude.{ℕ, ℤ, Bool, ◌&&◌, ◌==◌, nat_le, List, [], ◌∷◌, length, Option, Some, None, Result, Ok, Err, if◌then◌else◌, option_and_then}
use Rattle.std.specs.List.{filter_map, find, list_all, range_with_len, zip}
use Rattle.std.specs.Option.{option_map, option_map_or, is_some}
use Rattle.std.specs.Ordering.{is_lt}
use Rattle.rc_cell.specs.declared.rows.Row.{Row}
use Rattle.rc_cell.specs.declared.writes.Cell.{Cell}
use Rattle.rc_cell.specs.declared.writes.Tomb.{Tomb}
use Rattle.rc_cell.specs.Winner.{empty_row}
use Rattle.rc_position.specs.declared.comps.Comp.{Comp}
use Rattle.rc_position.specs.declared.comps.Comp.TheVariants as comps
use Rattle.rc_position.specs.declared.positions.Pos.{Pos}
use Rattle.rc_position.specs.declared.slices.Slice.{Slice}
use Rattle.rc_position.specs.Position.{pos_cmp, start_bound, end_bound, longest_partition_key}
use Rattle.rc_ranges.specs.declared.pieces.Piece.{Piece}
use Rattle.rc_schema.specs.declared.kinds.CkKind.{CkKind}
use Rattle.rc_schema.specs.declared.kinds.CkKind.TheVariants.{Int, Text}
use Rattle.rc_schema.specs.SchemaValue.{SchemaValue}
use Rattle.rc_schema.specs.Checks.{column_of, is_short, has_short_value}
use Rattle.rc_spelling.specs.Numbers.{signed_of}
use Rattle.rc_spelling.specs.Words.{is_word}
use Rattle.rc_lines.specs.declared.commands.Command.{Command}
use Rattle.rc_lines.specs.declared.commands.Command.TheVariants.{Put}
use Rattle.rc_lines.specs.declared.commands.Refusal.{Refusal}
use Rattle.rc_lines.specs.declared.commands.Refusal.TheVariants.{WrongKey, UnknownColumn, TooLong}

-- a component of a kind: an int is a signed number within 64 bits, a text any bytes
abbrev pub component_of : CkKind → List ℕ → Option Comp
component_of Int piece = option_map (λ number. comps.Int number) (signed_of piece)
component_of Text piece = Some (comps.Text piece)

-- the components of a key or of a prefix: each of its kind, and no more than there are kinds
abbrev pub prefix_of : List (List ℕ) → List CkKind → Option (List Comp)
prefix_of [] kinds = Some []
prefix_of (piece ∷ pieces) [] = None
prefix_of (piece ∷ pieces) (kind ∷ kinds) = option_and_then (λ component. option_map (λ key. component ∷ key) (prefix_of pieces kinds)) (component_of kind piece)

-- the positions between two of which the first is below the second
unfoldable pub slice_between : Pos → Pos → Option Slice
slice_between from to = if is_lt (pos_cmp from to) then Some (record { from = from; to = to }) else None

-- the positions between two limits
unfoldable pub slice_of : List (List ℕ) × Bool → List (List ℕ) × Bool → List CkKind → Option Slice
slice_of from to kinds = option_and_then (λ f. option_and_then (λ t. slice_between (start_bound f from.1) (end_bound t to.1)) (prefix_of to.0 kinds)) (prefix_of from.0 kinds)

-- the cells of a line by column, where each name is one's: of each column in the schema's order the cell of its name
unfoldable pub columns_of : List (List ℕ) → List (List ℕ × Cell) → Option (List (ℕ × Cell))
columns_of names cells =
    if list_all (λ e. is_some (column_of e.0 names)) cells then Some (filter_map (λ column. option_map (λ e. (column.0, e.1)) (find (λ e. is_word e.0 column.1) cells)) (zip (range_with_len 0 (length names)) names)) else None

-- whether a partition key has 1 to 64 bytes
abbrev pub is_partition_key : List ℕ → Bool
is_partition_key key = nat_le 1 (length key) && nat_le (length key) longest_partition_key

-- what a line says: under a schema its command, or why it is refused there
abbrev pub Saying : Type 0
Saying = SchemaValue → Result Command Refusal

-- a value, or a refusal where there is none
abbrev pub need : {A : Type 0} → Option A → Refusal → (A → Result Command Refusal) → Result Command Refusal
need found refusal more = option_map_or more found (Err refusal)

-- a write of these parts
abbrev pub put_parts : List ℕ → Option Tomb → Row → List (List Comp × Row) → List Piece → Command
put_parts key pt statics rows ranges = Put (record { key = key; change = record { pt = pt; statics = statics; rows = rows; ranges = ranges } })

-- a row is written: a marker, a tombstone and cells; its key has as many components as there are kinds
unfoldable pub row_written : List ℕ → List (List ℕ) → Option ℤ → Option Tomb → List (List ℕ × Cell) → Saying
row_written key ck marker tomb cells schema =
    need (if length ck == length schema.ck then prefix_of ck schema.ck else None) WrongKey (λ k. need (columns_of schema.cols cells) UnknownColumn (λ found.
    if is_partition_key key && (list_all is_short k && list_all (λ e. has_short_value e.1) found)
    then Ok (put_parts key None empty_row ((k, record { marker = marker; tomb = tomb; cells = found }) ∷ []) []) else Err TooLong))

-- the static row is written
unfoldable pub statics_written : List ℕ → List (List ℕ × Cell) → Saying
statics_written key cells schema =
    need (columns_of schema.statics cells) UnknownColumn (λ found.
    if is_partition_key key && list_all (λ e. has_short_value e.1) found then Ok (put_parts key None (record { marker = None; tomb = None; cells = found }) [] []) else Err TooLong)

-- a command on the rows of a slice, between two limits
unfoldable pub on_slice : List ℕ → List (List ℕ) × Bool → List (List ℕ) × Bool → (Slice → Command) → Saying
on_slice key from to command schema =
    need (slice_of from to schema.ck) WrongKey (λ slice.
    if is_partition_key key && (list_all is_short slice.from.prefix && list_all is_short slice.to.prefix) then Ok (command slice) else Err TooLong)

-- a range tombstone is written
unfoldable pub range_written : List ℕ → List (List ℕ) × Bool → List (List ℕ) × Bool → Tomb → Saying
range_written key from to tomb = on_slice key from to (λ slice. put_parts key None empty_row [] (record { from = slice.from; to = slice.to; tomb = tomb } ∷ []))

-- the partition tombstone is written
unfoldable pub partition_written : List ℕ → Tomb → Saying
partition_written key tomb schema = if is_partition_key key then Ok (put_parts key (Some tomb) empty_row [] []) else Err TooLong
