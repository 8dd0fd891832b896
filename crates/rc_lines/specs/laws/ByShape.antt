-- A line means by its form what it means by its shape.
use Rattle.std.proofs.Common.{◌≡◌, ℕ, ℤ, ◌+◌, Bool, true, false, cond, not, ◌&&◌, ◌||◌, nat_lt, List, [], ◌∷◌, ◌++◌, length, refl, sym, ap, ◌∙◌}
use Rattle.std.specs.Prelude.{if◌then◌else◌, Result, Ok, Err}
use Rattle.std.specs.declared.option.Option.{Option}
use Rattle.std.specs.declared.option.Option.TheVariants.{Some, None}
use Rattle.std.specs.List.{cons_option, filter_map, find, range_with_len, slice_get, zip}
use Rattle.std.specs.Option.{option_map, option_map_or, option_to_list, is_none, is_some, unwrap_or}
use Rattle.rc_cell.specs.declared.writes.Cell.{Cell}
use Rattle.rc_cell.specs.declared.writes.Tomb.{Tomb}
use Rattle.rc_cell.specs.Winner.{empty_row}
use Rattle.rc_mutation.specs.Fragments.{has_any}
use Rattle.rc_position.specs.declared.comps.Comp.{Comp}
use Rattle.rc_position.specs.declared.slices.Slice.{Slice}
use Rattle.rc_query.specs.Answer.{whole_slice}
use Rattle.rc_schema.specs.SchemaValue.{SchemaValue}
use Rattle.rc_spelling.specs.Words.{is_word, words}
use Rattle.rc_lines.specs.declared.commands.Command.{Command}
use Rattle.rc_lines.specs.declared.commands.Command.TheVariants.{Nothing, SetSchema, OpenRead}
use Rattle.rc_lines.specs.declared.commands.Refusal.{Refusal}
use Rattle.rc_lines.specs.declared.commands.Refusal.TheVariants.{BadLine, NoSchema, WrongKey, UnknownColumn, TooLong}
use Rattle.rc_lines.specs.declared.shapes.Bound.{Bound}
use Rattle.rc_lines.specs.declared.shapes.Change.TheVariants.{OfRow, OfStatic, OfRange, OfPartition}
use Rattle.rc_lines.specs.declared.shapes.Shape.{Shape}
use Rattle.rc_lines.specs.declared.shapes.Shape.TheVariants.{Plain, Open, Written}
use Rattle.rc_lines.specs.Forms.{forms}
use Rattle.rc_lines.specs.Grammar.{longest_line, is_comment, schema_said, parse}
use Rattle.rc_lines.specs.UnderSchema.{need, put_parts, slice_of, columns_of, is_partition_key, row_written, statics_written, range_written, partition_written, on_slice}
use Rattle.rc_lines.specs.calls.ByShape.{shape_meaning, line_meaning, parse_by_shape}
use Rattle.rc_lines.specs.calls.ShapeMeaning.{key_under, are_columns, are_short, have_short_values, is_short_slice, cell_named, columns_from, by_column, slice_under, rows_said, refusal_of, unless, meaning}
use Rattle.rc_lines.specs.calls.Shapes.{shape_of}
use Rattle.rc_lines.specs.laws.Named.{columns_stay, row_stays}
use Rattle.rc_lines.specs.laws.Said.{If, Said, SaidShape, shape_said}
use Rattle.rc_lines.specs.laws.WordForms.{limit, shape_saying, words_alike}

-- ---- columns

found_step : (b : Bool) (e : List ℕ × Cell) (one : Option Cell) (other : Option (List ℕ × Cell)) → one ≡ option_map (λ (e : List ℕ × Cell). e.1) other
    → (if b then Some e.1 else one) ≡ option_map (λ (e : List ℕ × Cell). e.1) (cond b (Some e) other)
found_step true e one other h = refl
found_step false e one other h = h

cell_found : (name : List ℕ) (cells : List (List ℕ × Cell)) → cell_named name cells ≡ option_map (λ (e : List ℕ × Cell). e.1) (find (λ e. is_word e.0 name) cells)
cell_found name [] = refl
cell_found name (e ∷ cells) = found_step (is_word e.0 name) e (cell_named name cells) (find (λ e. is_word e.0 name) cells) (cell_found name cells)

-- the cell that stands in a column
abbrev in_column : List (List ℕ × Cell) → ℕ × List ℕ → Option (ℕ × Cell)
in_column cells column = option_map (λ (e : List ℕ × Cell). (column.0, e.1)) (find (λ e. is_word e.0 column.1) cells)

column_step : (column : ℕ) (o : Option (List ℕ × Cell)) (rest : List (ℕ × Cell)) →
    option_to_list (option_map (λ cell. (column, cell)) (option_map (λ (e : List ℕ × Cell). e.1) o)) ++ rest ≡ cons_option (option_map (λ (e : List ℕ × Cell). (column, e.1)) o) rest
column_step column None rest = refl
column_step column (Some e) rest = refl

columns_alike : (column : ℕ) (names : List (List ℕ)) (cells : List (List ℕ × Cell)) → columns_from column names cells ≡ filter_map (in_column cells) (zip (range_with_len column (length names)) names)
columns_alike column [] cells = refl
columns_alike column (name ∷ names) cells =
    (λ i. option_to_list (option_map (λ cell. (column, cell)) (cell_found name cells i)) ++ columns_alike (column + 1) names cells i)
    ∙ column_step column (find (λ e. is_word e.0 name) cells) (filter_map (in_column cells) (zip (range_with_len (column + 1) (length names)) names))

by_columns : (names : List (List ℕ)) (cells : List (List ℕ × Cell)) → columns_of names cells ≡ (if are_columns names cells then Some (by_column names cells) else None)
unfolding columns_of by_column
by_columns names cells = ap (λ found. if are_columns names cells then Some found else None) (sym (columns_alike 0 names cells))

-- ---- what is written or opened

-- a command that is too long where a test fails
abbrev within : Bool → Command → Result Command Refusal
within b command = if b then Ok command else Err TooLong

within_unless : (b : Bool) (command : Command) → within b command ≡ unless (if b then None else Some TooLong) command
within_unless true command = refl
within_unless false command = refl

row_cases : (key : List ℕ) (o : Option (List Comp)) (known : Bool) (marker : Option ℤ) (tomb : Option Tomb) (cells : List (ℕ × Cell)) →
    (known ≡ true → is_some marker || (is_some tomb || has_any cells) ≡ true) →
    need o WrongKey (λ k. need (if known then Some cells else None) UnknownColumn (λ found.
    within (is_partition_key key && (are_short k && have_short_values found)) (put_parts key None empty_row ((k, record { marker = marker; tomb = tomb; cells = found }) ∷ []) [])))
    ≡ unless (if is_none o then Some WrongKey else if not known then Some UnknownColumn else if is_partition_key key && (are_short (unwrap_or o []) && have_short_values cells) then None else Some TooLong)
    (put_parts key None empty_row (rows_said (unwrap_or o []) (record { marker = marker; tomb = tomb; cells = cells })) [])
row_cases key None known marker tomb cells w = refl
row_cases key (Some k) false marker tomb cells w = refl
row_cases key (Some k) true marker tomb cells w =
    let some : is_some marker || (is_some tomb || has_any cells) ≡ true = w refl in
    rw some (within_unless (is_partition_key key && (are_short k && have_short_values cells)) (put_parts key None empty_row ((k, record { marker = marker; tomb = tomb; cells = cells }) ∷ []) []))

row_means : (schema : SchemaValue) (key : List ℕ) (ck : List (List ℕ)) (marker : Option ℤ) (tomb : Option Tomb) (cells : List (List ℕ × Cell)) → Said (OfRow ck marker tomb cells)
    → row_written key ck marker tomb cells schema ≡ meaning schema (Written key (OfRow ck marker tomb cells))
unfolding row_written meaning refusal_of
row_means schema key ck marker tomb cells said =
    ap (λ o. need (key_under ck schema.ck) WrongKey (λ k. need o UnknownColumn (λ found.
    within (is_partition_key key && (are_short k && have_short_values found)) (put_parts key None empty_row ((k, record { marker = marker; tomb = tomb; cells = found }) ∷ []) [])))) (by_columns schema.cols cells)
    ∙ row_cases key (key_under ck schema.ck) (are_columns schema.cols cells) marker tomb (by_column schema.cols cells)
    (λ known. row_stays marker tomb (has_any cells) (has_any (by_column schema.cols cells)) said (columns_stay schema.cols cells known))

statics_cases : (key : List ℕ) (known : Bool) (cells : List (ℕ × Cell)) →
    need (if known then Some cells else None) UnknownColumn (λ found. within (is_partition_key key && have_short_values found) (put_parts key None (record { marker = None; tomb = None; cells = found }) [] []))
    ≡ unless (if not known then Some UnknownColumn else if is_partition_key key && have_short_values cells then None else Some TooLong) (put_parts key None (record { marker = None; tomb = None; cells = cells }) [] [])
statics_cases key false cells = refl
statics_cases key true cells = within_unless (is_partition_key key && have_short_values cells) (put_parts key None (record { marker = None; tomb = None; cells = cells }) [] [])

statics_mean : (schema : SchemaValue) (key : List ℕ) (cells : List (List ℕ × Cell)) → statics_written key cells schema ≡ meaning schema (Written key (OfStatic cells))
unfolding statics_written meaning refusal_of
statics_mean schema key cells =
    ap (λ o. need o UnknownColumn (λ found. within (is_partition_key key && have_short_values found) (put_parts key None (record { marker = None; tomb = None; cells = found }) [] []))) (by_columns schema.statics cells)
    ∙ statics_cases key (are_columns schema.statics cells) (by_column schema.statics cells)

slice_cases : (key : List ℕ) (make : Slice → Command) (o : Option Slice) →
    need o WrongKey (λ slice. within (is_partition_key key && is_short_slice slice) (make slice))
    ≡ unless (if is_none o then Some WrongKey else if is_partition_key key && is_short_slice (unwrap_or o whole_slice) then None else Some TooLong) (make (unwrap_or o whole_slice))
slice_cases key make None = refl
slice_cases key make (Some slice) = within_unless (is_partition_key key && is_short_slice slice) (make slice)

range_means : (schema : SchemaValue) (key : List ℕ) (from to : Bound) (tomb : Tomb) → range_written key (limit from) (limit to) tomb schema ≡ meaning schema (Written key (OfRange from to tomb))
unfolding range_written on_slice slice_of slice_under meaning refusal_of
range_means schema key from to tomb =
    slice_cases key (λ slice. put_parts key None empty_row [] (record { from = slice.from; to = slice.to; tomb = tomb } ∷ [])) (slice_under from to schema.ck)

open_means : (schema : SchemaValue) (id : ℕ) (key : List ℕ) (from to : Bound) → on_slice key (limit from) (limit to) (OpenRead id key) schema ≡ meaning schema (Open id key from to)
unfolding on_slice slice_of slice_under meaning refusal_of
open_means schema id key from to = slice_cases key (λ slice. OpenRead id key slice) (slice_under from to schema.ck)

and_true : (b : Bool) → b ≡ b && true
and_true true = refl
and_true false = refl

partition_means : (schema : SchemaValue) (key : List ℕ) (tomb : Tomb) → partition_written key tomb schema ≡ meaning schema (Written key (OfPartition tomb))
unfolding partition_written meaning refusal_of
partition_means schema key tomb =
    within_unless (is_partition_key key) (put_parts key (Some tomb) empty_row [] [])
    ∙ ap (λ b. unless (if b then None else Some TooLong) (put_parts key (Some tomb) empty_row [] [])) (and_true (is_partition_key key))

plain_means : (schema : SchemaValue) (command : Command) → ◌≡◌ {A = Result Command Refusal} (Ok command) (meaning schema (Plain command))
unfolding meaning refusal_of
plain_means schema command = refl

-- what a shape says under a schema is what it means there
shape_means : (schema : SchemaValue) (shape : Shape) → SaidShape shape → shape_saying shape schema ≡ meaning schema shape
shape_means schema (Plain command) said = plain_means schema command
shape_means schema (Open id key from to) said = open_means schema id key from to
shape_means schema (Written key (OfRow ck marker tomb cells)) said = row_means schema key ck marker tomb cells said
shape_means schema (Written key (OfStatic cells)) said = statics_mean schema key cells
shape_means schema (Written key (OfRange from to tomb)) said = range_means schema key from to tomb
shape_means schema (Written key (OfPartition tomb)) said = partition_means schema key tomb

-- ---- lines

taken_alike : (taken : Option SchemaValue) (o : Option Shape) → If SaidShape o → need (option_map shape_saying o) BadLine (λ saying. need taken NoSchema saying) ≡ shape_meaning taken o
taken_alike taken None said = refl
taken_alike None (Some shape) said = refl
taken_alike (Some schema) (Some shape) said = shape_means schema shape said

line_alike : (taken : Option SchemaValue) (line : List ℕ) (o : Option SchemaValue) →
    option_map_or (λ schema. Ok (SetSchema schema)) o (need (slice_get (filter_map (λ form. form (words line)) forms) 0) BadLine (λ saying. need taken NoSchema saying)) ≡ line_meaning taken line o
line_alike taken line (Some schema) = refl
line_alike taken line None =
    ap (λ said. need said BadLine (λ saying. need taken NoSchema saying)) (words_alike (words line)) ∙ taken_alike taken (shape_of (words line)) (shape_said (words line))

-- what a line means by its form it means by its shape
pub by_shape : (taken : Option SchemaValue) (line : List ℕ) → parse taken line ≡ parse_by_shape taken line
unfolding parse parse_by_shape
by_shape taken line = ap (λ later. if nat_lt longest_line (length line) then Err BadLine else if is_comment line then Ok Nothing else later) (line_alike taken line (schema_said line))
