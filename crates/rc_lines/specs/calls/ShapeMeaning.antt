-- What a shape means under a schema: its command, or the first cause, over the whole line, why it is refused.
use Rattle.std.specs.Prelude.{ℕ, Bool, true, false, not, ◌&&◌, ◌+◌, ◌==◌, List, [], ◌∷◌, ◌++◌, length, Option, Some, None, Result, Ok, Err, if◌then◌else◌, option_and_then}
use Rattle.std.specs.List.{list_all}
use Rattle.std.specs.Option.{option_map, option_to_list, is_some, is_none, unwrap_or}
use Rattle.rc_cell.specs.declared.rows.Row.{Row}
use Rattle.rc_cell.specs.declared.writes.Cell.{Cell}
use Rattle.rc_cell.specs.Winner.{empty_row}
use Rattle.rc_mutation.specs.declared.mutations.Mutation.{Mutation}
use Rattle.rc_position.specs.declared.comps.Comp.{Comp}
use Rattle.rc_position.specs.declared.slices.Slice.{Slice}
use Rattle.rc_position.specs.Position.{start_bound, end_bound}
use Rattle.rc_mutation.specs.Fragments.{is_written}
use Rattle.rc_query.specs.Answer.{whole_slice}
use Rattle.rc_schema.specs.declared.kinds.CkKind.{CkKind}
use Rattle.rc_schema.specs.SchemaValue.{SchemaValue}
use Rattle.rc_spelling.specs.Words.{is_word}
use Rattle.rc_schema.specs.Checks.{column_of, is_short, has_short_value}
use Rattle.rc_lines.specs.declared.commands.Command.{Command}
use Rattle.rc_lines.specs.declared.commands.Command.TheVariants.{Put, OpenRead}
use Rattle.rc_lines.specs.declared.commands.Refusal.{Refusal}
use Rattle.rc_lines.specs.declared.commands.Refusal.TheVariants.{WrongKey, UnknownColumn, TooLong}
use Rattle.rc_lines.specs.declared.shapes.Bound.{Bound}
use Rattle.rc_lines.specs.declared.shapes.Change.{Change}
use Rattle.rc_lines.specs.declared.shapes.Change.TheVariants.{OfRow, OfStatic, OfRange, OfPartition}
use Rattle.rc_lines.specs.declared.shapes.Shape.{Shape}
use Rattle.rc_lines.specs.declared.shapes.Shape.TheVariants.{Plain, Open, Written}
use Rattle.rc_lines.specs.UnderSchema.{prefix_of, slice_between, is_partition_key}

-- the positions between two bounds
unfoldable pub slice_under : Bound → Bound → List CkKind → Option Slice
slice_under from to kinds =
    option_and_then (λ f. option_and_then (λ t. slice_between (start_bound f from.inclusive) (end_bound t to.inclusive)) (prefix_of to.pieces kinds)) (prefix_of from.pieces kinds)

-- the cell that a line has for a name
abbrev pub cell_named : List ℕ → List (List ℕ × Cell) → Option Cell
cell_named name [] = None
cell_named name (e ∷ cells) = if is_word e.0 name then Some e.1 else cell_named name cells

-- of each column in the schema's order, from a number on, the cell that the line has for its name
abbrev pub columns_from : ℕ → List (List ℕ) → List (List ℕ × Cell) → List (ℕ × Cell)
columns_from column [] cells = []
columns_from column (name ∷ names) cells =
    option_to_list (option_map (λ cell. (column, cell)) (cell_named name cells)) ++ columns_from (column + 1) names cells

-- the cells of a line by column: of each column in the schema's order the cell of its name
unfoldable pub by_column : List (List ℕ) → List (List ℕ × Cell) → List (ℕ × Cell)
by_column names cells = columns_from 0 names cells

-- the names of the static columns, or of the regular ones
abbrev pub columns_said : Bool → SchemaValue → List (List ℕ)
columns_said is_static schema = if is_static then schema.statics else schema.cols

-- the components of a key: as many as there are kinds
abbrev pub key_under : List (List ℕ) → List CkKind → Option (List Comp)
key_under pieces kinds = if length pieces == length kinds then prefix_of pieces kinds else None

-- the components of a key that is not wrong
abbrev pub key_said : List (List ℕ) → SchemaValue → List Comp
key_said pieces schema = unwrap_or (key_under pieces schema.ck) []

-- the slice between two bounds that are not wrong
abbrev pub slice_said : Bound → Bound → SchemaValue → Slice
slice_said from to schema = unwrap_or (slice_under from to schema.ck) whole_slice

-- whether each name is a column's
abbrev pub are_columns : List (List ℕ) → List (List ℕ × Cell) → Bool
are_columns names cells = list_all (λ e. is_some (column_of e.0 names)) cells

-- whether each text component has at most 64 bytes
abbrev pub are_short : List Comp → Bool
are_short key = list_all is_short key

-- whether each value has at most 256 bytes
abbrev pub have_short_values : List (ℕ × Cell) → Bool
have_short_values cells = list_all (λ e. has_short_value e.1) cells

-- whether the text components of both bounds of a slice are within the limits
abbrev pub is_short_slice : Slice → Bool
is_short_slice slice = are_short slice.from.prefix && are_short slice.to.prefix

-- whether a count of components, an int component or the order of bounds in what is written is wrong
abbrev pub is_wrong_change : SchemaValue → Change → Bool
is_wrong_change schema (OfRow ck marker tomb cells) = is_none (key_under ck schema.ck)
is_wrong_change schema (OfStatic cells) = false
is_wrong_change schema (OfRange from to tomb) = is_none (slice_under from to schema.ck)
is_wrong_change schema (OfPartition tomb) = false

-- whether one of these is wrong in a line
abbrev pub has_wrong_key : SchemaValue → Shape → Bool
has_wrong_key schema (Plain command) = false
has_wrong_key schema (Open id key from to) = is_none (slice_under from to schema.ck)
has_wrong_key schema (Written key change) = is_wrong_change schema change

-- whether a name in what is written is no column of that sort
abbrev pub is_unknown_change : SchemaValue → Change → Bool
is_unknown_change schema (OfRow ck marker tomb cells) = not (are_columns schema.cols cells)
is_unknown_change schema (OfStatic cells) = not (are_columns schema.statics cells)
is_unknown_change schema (OfRange from to tomb) = false
is_unknown_change schema (OfPartition tomb) = false

-- whether a name in a line is no column of that sort
abbrev pub has_unknown_column : SchemaValue → Shape → Bool
has_unknown_column schema (Plain command) = false
has_unknown_column schema (Open id key from to) = false
has_unknown_column schema (Written key change) = is_unknown_change schema change

-- whether the text components and the values in what is written are within the limits
abbrev pub is_short_change : SchemaValue → Change → Bool
is_short_change schema (OfRow ck marker tomb cells) = are_short (key_said ck schema) && have_short_values (by_column schema.cols cells)
is_short_change schema (OfStatic cells) = have_short_values (by_column schema.statics cells)
is_short_change schema (OfRange from to tomb) = is_short_slice (slice_said from to schema)
is_short_change schema (OfPartition tomb) = true

-- whether the partition key, the text components and the values of a line are within the limits
abbrev pub is_within : SchemaValue → Shape → Bool
is_within schema (Plain command) = true
is_within schema (Open id key from to) = is_partition_key key && is_short_slice (slice_said from to schema)
is_within schema (Written key change) = is_partition_key key && is_short_change schema change

-- the first of these causes
unfoldable pub refusal_of : SchemaValue → Shape → Option Refusal
refusal_of schema shape =
    if has_wrong_key schema shape then Some WrongKey
    else if has_unknown_column schema shape then Some UnknownColumn
    else if is_within schema shape then None
    else Some TooLong

-- the row of a key, if something is written of it
abbrev pub rows_said : List Comp → Row → List (List Comp × Row)
rows_said key row = if is_written row then (key, row) ∷ [] else []

-- what a line writes, each part of it alone
abbrev pub mutation_of : SchemaValue → Change → Mutation
mutation_of schema (OfRow ck marker tomb cells) =
    record { pt = None; statics = empty_row; rows = rows_said (key_said ck schema) (record { marker = marker; tomb = tomb; cells = by_column schema.cols cells }); ranges = [] }
mutation_of schema (OfStatic cells) =
    record { pt = None; statics = record { marker = None; tomb = None; cells = by_column schema.statics cells }; rows = []; ranges = [] }
mutation_of schema (OfRange from to tomb) =
    let slice = slice_said from to schema in
    record { pt = None; statics = empty_row; rows = []; ranges = record { from = slice.from; to = slice.to; tomb = tomb } ∷ [] }
mutation_of schema (OfPartition tomb) = record { pt = Some tomb; statics = empty_row; rows = []; ranges = [] }

-- what is written under a schema, or why it is refused but for its partition key
unfoldable pub change_meaning : SchemaValue → Change → Result Mutation Refusal
change_meaning schema change =
    if is_wrong_change schema change then Err WrongKey
    else if is_unknown_change schema change then Err UnknownColumn
    else if is_short_change schema change then Ok (mutation_of schema change)
    else Err TooLong

-- what a line commands that is not refused
abbrev pub command_of : SchemaValue → Shape → Command
command_of schema (Plain command) = command
command_of schema (Open id key from to) = OpenRead id key (slice_said from to schema)
command_of schema (Written key change) = Put (record { key = key; change = mutation_of schema change })

-- a refusal, or else a command
abbrev pub unless : Option Refusal → Command → Result Command Refusal
unless None command = Ok command
unless (Some refusal) command = Err refusal

-- what a line means: the first cause why it is refused, or its command
unfoldable pub meaning : SchemaValue → Shape → Result Command Refusal
meaning schema shape = unless (refusal_of schema shape) (command_of schema shape)
