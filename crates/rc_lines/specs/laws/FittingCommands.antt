-- What a line commands under a schema fits it.
use Rattle.std.proofs.Common.{◌≡◌, ℕ, Bool, true, false, not, ◌&&◌, ◌==◌, nat_lt, List, [], ◌∷◌, length, refl, sym, subst, ◌∙◌}
use Rattle.std.specs.Prelude.{if◌then◌else◌, option_and_then, Result, Ok, Err}
use Rattle.std.specs.declared.option.Option.{Option}
use Rattle.std.specs.declared.option.Option.TheVariants.{Some, None}
use Rattle.std.specs.declared.cmp.Ordering.{Ordering}
use Rattle.std.specs.declared.cmp.Ordering.TheVariants.{Less, Equal, Greater}
use Rattle.std.specs.List.{list_all}
use Rattle.std.specs.Option.{is_none, unwrap_or}
use Rattle.std.specs.Ordering.{is_lt}
use Rattle.std.proofs.lemmas.Bool.Decides.{Decides-eqb}
use Rattle.rc_cell.specs.declared.rows.Row.{Row}
use Rattle.rc_cell.specs.declared.writes.Cell.{Cell}
use Rattle.rc_cell.specs.declared.writes.Tomb.{Tomb}
use Rattle.rc_cell.specs.Winner.{empty_row}
use Rattle.rc_mutation.specs.declared.mutations.Mutation.{Mutation}
use Rattle.rc_position.specs.declared.comps.Comp.{Comp}
use Rattle.rc_position.specs.declared.positions.Pos.{Pos}
use Rattle.rc_position.specs.declared.slices.Slice.{Slice}
use Rattle.rc_position.specs.Position.{pos_cmp, start_bound, end_bound, IsBefore}
use Rattle.rc_mutation.specs.Fragments.{has_any, is_written}
use Rattle.rc_query.specs.Answer.{whole_slice}
use Rattle.rc_schema.specs.declared.kinds.CkKind.{CkKind}
use Rattle.rc_schema.specs.Checks.{are_of_kinds, fits_kinds, column_count}
use Rattle.rc_schema.specs.SchemaValue.{SchemaValue}
use Rattle.rc_spelling.specs.Words.{words}
use Rattle.rc_lines.specs.declared.commands.Command.{Command}
use Rattle.rc_lines.specs.declared.commands.Command.TheVariants.{Nothing, SetSchema}
use Rattle.rc_lines.specs.declared.commands.Refusal.{Refusal}
use Rattle.rc_lines.specs.declared.commands.Refusal.TheVariants.{WrongKey, UnknownColumn, TooLong, BadLine}
use Rattle.rc_lines.specs.declared.shapes.Bound.{Bound}
use Rattle.rc_lines.specs.declared.shapes.Change.{Change}
use Rattle.rc_lines.specs.declared.shapes.Change.TheVariants.{OfRow, OfStatic, OfRange, OfPartition}
use Rattle.rc_lines.specs.declared.shapes.Shape.{Shape}
use Rattle.rc_lines.specs.declared.shapes.Shape.TheVariants.{Plain, Open, Written}
use Rattle.rc_writes.specs.Single.{is_single}
use Rattle.rc_lines.specs.Fits.{CommandFits}
use Rattle.rc_lines.specs.laws.Tests.{is_bound, fits_bound, fits_key, fits_cells, fits_slice, fits_write, slice_passes, write_passes}
use Rattle.rc_lines.specs.Grammar.{longest_line, is_comment, schema_said, parse}
use Rattle.rc_lines.specs.calls.ByShape.{shape_meaning, line_meaning, parse_by_shape}
use Rattle.rc_lines.specs.calls.Shapes.{shape_of}
use Rattle.rc_lines.specs.UnderSchema.{prefix_of, slice_between, is_partition_key}
use Rattle.rc_lines.specs.calls.ShapeMeaning.{key_under, are_columns, are_short, have_short_values, is_short_slice, slice_under, by_column, key_said, slice_said, has_wrong_key, has_unknown_column, is_within, is_wrong_change, is_unknown_change, is_short_change, rows_said, mutation_of, refusal_of, command_of, unless, meaning}
use Rattle.rc_lines.specs.laws.Fitting.{prefix_fits, prefix_is_as_long, columns_are_known, start_fits, end_fits}
use Rattle.rc_lines.specs.laws.Said.{If, after, Said, SaidShape, shape_said}
use Rattle.rc_lines.specs.laws.Halves.{both, join}
use Rattle.rc_lines.specs.laws.ByShape.{by_shape}
use Rattle.rc_lines.specs.laws.Named.{columns_stay, row_stays}

not_false : (b : Bool) → not b ≡ false → b ≡ true
not_false true h = refl
not_false false h = cc

of_equal : {X : Type 0} (P : X → Type 0) (o : Option X) → ((x : X) → o ≡ Some x → P x) → If P o
of_equal P None h = tt
of_equal P (Some x) h = h x refl

if_some : {X : Type 0} (b : Bool) (o : Option X) (x : X) → (if b then o else None) ≡ Some x → (b ≡ true) × (o ≡ Some x)
if_some true o x h = (refl, h)
if_some false o x h = cc

-- keys, cells and slices that fit

key_fits : (full : Bool) (schema : SchemaValue) (key : List Comp) → fits_kinds full schema.ck key ≡ true → are_short key ≡ true → fits_key full schema key ≡ true
key_fits full schema key p q = rw (p, q) refl

cells_fit : (is_static : Bool) (schema : SchemaValue) (cells : List (ℕ × Cell)) → list_all (λ e. nat_lt e.0 (column_count is_static schema)) cells ≡ true → have_short_values cells ≡ true
    → fits_cells is_static schema cells ≡ true
cells_fit is_static schema cells p q = rw (p, q) refl

equal_numbers : (n m : ℕ) → n ≡ m → n == m ≡ true
equal_numbers n m h = (Decides-eqb n m).1 h

full_fits : (pieces : List (List ℕ)) (kinds : List CkKind) (key : List Comp) → key_under pieces kinds ≡ Some key → fits_kinds true kinds key ≡ true
full_fits pieces kinds key h =
    let parts = if_some (length pieces == length kinds) (prefix_of pieces kinds) key h in
    join (are_of_kinds key kinds) (length key == length kinds) (prefix_fits pieces kinds key parts.1)
    (subst (λ (n : ℕ). n == length kinds ≡ true) (sym (prefix_is_as_long pieces kinds key parts.1)) parts.0)

pub is_less : (r : Ordering) → is_lt r ≡ true → r ≡ Less
is_less Less h = refl
is_less Equal h = cc
is_less Greater h = cc

-- a bound at a prefix of the schema's kinds
abbrev BoundFits : List CkKind → Pos → Type 0
BoundFits kinds x = (is_bound x.weight ≡ true) × (fits_kinds false kinds x.prefix ≡ true)

-- a slice between two such bounds, the first below the second
abbrev SliceFits : List CkKind → Slice → Type 0
SliceFits kinds slice = IsBefore slice.from slice.to × BoundFits kinds slice.from × BoundFits kinds slice.to

start_is_bound : (prefix : List Comp) (inclusive : Bool) → is_bound (start_bound prefix inclusive).weight ≡ true
start_is_bound prefix true = refl
start_is_bound prefix false = refl

end_is_bound : (prefix : List Comp) (inclusive : Bool) → is_bound (end_bound prefix inclusive).weight ≡ true
end_is_bound prefix true = refl
end_is_bound prefix false = refl

between_fits : (kinds : List CkKind) (from to : Pos) → BoundFits kinds from → BoundFits kinds to → If (SliceFits kinds) (slice_between from to)
unfolding slice_between
between_fits kinds from to p q =
    elim (is_lt (pos_cmp from to)) as (λ b. is_lt (pos_cmp from to) ≡ b → If (SliceFits kinds) (if b then Some (record { from = from; to = to }) else None)) [
      | true ↦ λ t. (is_less (pos_cmp from to) t, p, q)
      | false ↦ λ _. tt
    ] refl

slice_fits : (from to : Bound) (kinds : List CkKind) → If (SliceFits kinds) (slice_under from to kinds)
unfolding slice_under
slice_fits from to kinds =
    let Of : List Comp → Type 0 = λ key. are_of_kinds key kinds ≡ true in
    after (SliceFits kinds) Of (λ f. option_and_then (λ t. slice_between (start_bound f from.inclusive) (end_bound t to.inclusive)) (prefix_of to.pieces kinds)) (prefix_of from.pieces kinds)
    (of_equal Of (prefix_of from.pieces kinds) (prefix_fits from.pieces kinds))
    (λ f p. after (SliceFits kinds) Of (λ t. slice_between (start_bound f from.inclusive) (end_bound t to.inclusive)) (prefix_of to.pieces kinds)
    (of_equal Of (prefix_of to.pieces kinds) (prefix_fits to.pieces kinds))
    (λ t q. between_fits kinds (start_bound f from.inclusive) (end_bound t to.inclusive)
    (start_is_bound f from.inclusive, start_fits kinds f from.inclusive (start_bound f from.inclusive) refl p) (end_is_bound t to.inclusive, end_fits kinds t to.inclusive (end_bound t to.inclusive) refl q)))

bound_fits : (schema : SchemaValue) (x : Pos) → BoundFits schema.ck x → are_short x.prefix ≡ true → fits_bound schema x ≡ true
bound_fits schema x p short = join (is_bound x.weight) (fits_key false schema x.prefix) p.0 (key_fits false schema x.prefix p.1 short)

slice_stays : (schema : SchemaValue) (o : Option Slice) → If (SliceFits schema.ck) o → is_none o ≡ false → is_short_slice (unwrap_or o whole_slice) ≡ true
    → IsBefore (unwrap_or o whole_slice).from (unwrap_or o whole_slice).to × (fits_slice schema (unwrap_or o whole_slice) ≡ true)
slice_stays schema None p some short = cc
slice_stays schema (Some slice) p some short =
    let parts = both (are_short slice.from.prefix) (are_short slice.to.prefix) short in
    (p.0, join (fits_bound schema slice.from) (fits_bound schema slice.to) (bound_fits schema slice.from p.1 parts.0) (bound_fits schema slice.to p.2 parts.1))

-- writes that fit

no_cells_fit : (is_static : Bool) (schema : SchemaValue) → fits_cells is_static schema [] ≡ true
no_cells_fit is_static schema = refl

row_alone : (schema : SchemaValue) (key : List Comp) (row : Row) → is_written row ≡ true → fits_key true schema key ≡ true → fits_cells false schema row.cells ≡ true →
    let m : Mutation = record { pt = None; statics = empty_row; rows = rows_said key row; ranges = [] } in is_single m && fits_write schema m ≡ true
row_alone schema key row w p q = rw (w, p, q, no_cells_fit true schema) refl

key_stays : (schema : SchemaValue) (o : Option (List Comp)) → If (λ key. fits_kinds true schema.ck key ≡ true) o → is_none o ≡ false → are_short (unwrap_or o []) ≡ true
    → fits_key true schema (unwrap_or o []) ≡ true
key_stays schema None p some short = cc
key_stays schema (Some key) p some short = key_fits true schema key p short

statics_alone : (schema : SchemaValue) (cells : List (ℕ × Cell)) → has_any cells ≡ true → fits_cells true schema cells ≡ true →
    let m : Mutation = record { pt = None; statics = record { marker = None; tomb = None; cells = cells }; rows = []; ranges = [] } in is_single m && fits_write schema m ≡ true
statics_alone schema cells some p = rw (some, p) refl

range_alone : (schema : SchemaValue) (slice : Slice) (tomb : Tomb) → fits_slice schema slice ≡ true →
    let m : Mutation = record { pt = None; statics = empty_row; rows = []; ranges = record { from = slice.from; to = slice.to; tomb = tomb } ∷ [] } in is_single m && fits_write schema m ≡ true
range_alone schema slice tomb p = rw (no_cells_fit true schema, p) refl

partition_alone : (schema : SchemaValue) (tomb : Tomb) →
    let m : Mutation = record { pt = Some tomb; statics = empty_row; rows = []; ranges = [] } in is_single m && fits_write schema m ≡ true
partition_alone schema tomb = rw (no_cells_fit true schema) refl

change_fits : (schema : SchemaValue) (change : Change) → Said change → is_wrong_change schema change ≡ false → is_unknown_change schema change ≡ false → is_short_change schema change ≡ true
    → is_single (mutation_of schema change) && fits_write schema (mutation_of schema change) ≡ true
change_fits schema (OfRow ck marker tomb cells) said wrong unknown short =
    let known = not_false (are_columns schema.cols cells) unknown in
    let parts = both (are_short (key_said ck schema)) (have_short_values (by_column schema.cols cells)) short in
    row_alone schema (key_said ck schema) (record { marker = marker; tomb = tomb; cells = by_column schema.cols cells })
    (row_stays marker tomb (has_any cells) (has_any (by_column schema.cols cells)) said (columns_stay schema.cols cells known))
    (key_stays schema (key_under ck schema.ck) (of_equal (λ (key : List Comp). fits_kinds true schema.ck key ≡ true) (key_under ck schema.ck) (full_fits ck schema.ck)) wrong parts.0)
    (cells_fit false schema (by_column schema.cols cells) (columns_are_known false schema cells) parts.1)
change_fits schema (OfStatic cells) said wrong unknown short =
    statics_alone schema (by_column schema.statics cells) (columns_stay schema.statics cells (not_false (are_columns schema.statics cells) unknown) said)
    (cells_fit true schema (by_column schema.statics cells) (columns_are_known true schema cells) short)
change_fits schema (OfRange from to tomb) said wrong unknown short =
    range_alone schema (slice_said from to schema) tomb (slice_stays schema (slice_under from to schema.ck) (slice_fits from to schema.ck) wrong short).1
change_fits schema (OfPartition tomb) said wrong unknown short = partition_alone schema tomb

-- what is not refused has none of the causes
pub no_cause : (a b s : Bool) (made command : Command) → unless (if a then Some WrongKey else if b then Some UnknownColumn else if s then None else Some TooLong) made ≡ Ok command
    → (a ≡ false) × (b ≡ false) × (s ≡ true) × (made ≡ command)
no_cause true b s made command h = cc
no_cause false true s made command h = cc
no_cause false false false made command h = cc
no_cause false false true made command h = (refl, refl, refl, cc)

shape_fits : (schema : SchemaValue) (shape : Shape) → SaidShape shape → has_wrong_key schema shape ≡ false → has_unknown_column schema shape ≡ false → is_within schema shape ≡ true
    → CommandFits schema (command_of schema shape)
shape_fits schema (Plain command) said wrong unknown within = said schema
shape_fits schema (Open id key from to) said wrong unknown within =
    let slice = slice_said from to schema in
    let stays = slice_stays schema (slice_under from to schema.ck) (slice_fits from to schema.ck) wrong (both (is_partition_key key) (is_short_slice slice) within).1 in
    let bounds = slice_passes schema slice stays.1 in
    (stays.0, bounds.0, bounds.1)
shape_fits schema (Written key change) said wrong unknown within =
    let m = mutation_of schema change in
    let tests = both (is_single m) (fits_write schema m) (change_fits schema change said wrong unknown (both (is_partition_key key) (is_short_change schema change) within).1) in
    (tests.0, write_passes schema m tests.1)

meaning_fits : (schema : SchemaValue) (shape : Shape) (command : Command) → SaidShape shape → meaning schema shape ≡ Ok command → CommandFits schema command
unfolding meaning refusal_of
meaning_fits schema shape command said h =
    let n = no_cause (has_wrong_key schema shape) (has_unknown_column schema shape) (is_within schema shape) (command_of schema shape) command h in
    subst (CommandFits schema) n.3 (shape_fits schema shape said n.0 n.1 n.2)

shape_meaning_fits : (schema : SchemaValue) (o : Option Shape) (command : Command) → If SaidShape o → shape_meaning (Some schema) o ≡ Ok command → CommandFits schema command
shape_meaning_fits schema None command p h = cc
shape_meaning_fits schema (Some shape) command p h = meaning_fits schema shape command p h

pub same_command : (made command : Command) → ◌≡◌ {A = Result Command Refusal} (Ok made) (Ok command) → made ≡ command
same_command made command h = cc

said_fits : (schema : SchemaValue) (line : List ℕ) (o : Option SchemaValue) (command : Command) → line_meaning (Some schema) line o ≡ Ok command → CommandFits schema command
said_fits schema line (Some lists) command h = subst (CommandFits schema) (same_command (SetSchema lists) command h) tt
said_fits schema line None command h = shape_meaning_fits schema (shape_of (words line)) command (shape_said (words line)) h

-- what a line commands, by its length and its first byte
pub line_cases : (P : Command → Type 0) (a b : Bool) (r : Result Command Refusal) (command : Command) → P Nothing → (r ≡ Ok command → P command)
    → (if a then Err BadLine else if b then Ok Nothing else r) ≡ Ok command → P command
line_cases P true b r command p f h = absurd (cc)
line_cases P false true r command p f h = subst P (same_command Nothing command h) p
line_cases P false false r command p f h = f h

shape_commands_fit : (schema : SchemaValue) (line : List ℕ) (command : Command) → parse_by_shape (Some schema) line ≡ Ok command → CommandFits schema command
unfolding parse_by_shape
shape_commands_fit schema line command h =
    line_cases (CommandFits schema) (nat_lt longest_line (length line)) (is_comment line) (line_meaning (Some schema) line (schema_said line)) command tt
    (said_fits schema line (schema_said line) command) h

-- each command that a line gives under a schema fits it
pub commands_fit : (schema : SchemaValue) (line : List ℕ) (command : Command) → parse (Some schema) line ≡ Ok command → CommandFits schema command
commands_fit schema line command h = shape_commands_fit schema line command (sym (by_shape (Some schema) line) ∙ h)
