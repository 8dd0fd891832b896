-- Each command that a line of bytes gives is one that one line can say, and has a line.
use Rattle.std.proofs.Common.{◌≡◌, ℕ, ℤ, ◌+◌, Bool, true, false, ◌==◌, nat_lt, List, [], ◌∷◌, ◌++◌, length, refl, sym, subst, ap, ◌∙◌}
use Rattle.std.specs.Prelude.{codes, if◌then◌else◌, option_and_then, Ok}
use Rattle.std.specs.declared.option.Option.{Option}
use Rattle.std.specs.declared.option.Option.TheVariants.{Some, None}
use Rattle.std.specs.Int.{w64}
use Rattle.std.specs.Int.RustNames.{FitsSigned}
use Rattle.std.specs.List.{AllByRecursion}
use Rattle.std.specs.Option.{option_map, option_to_list, is_some, unwrap_or}
use Rattle.std.specs.Ordering.{is_lt}
use Rattle.rc_cell.specs.declared.rows.Row.{Row}
use Rattle.rc_cell.specs.declared.writes.Cell.{Cell}
use Rattle.rc_cell.specs.declared.writes.Cell.TheVariants.{Live, Dead}
use Rattle.rc_cell.specs.declared.writes.Tomb.{Tomb}
use Rattle.rc_cell.specs.Winner.{empty_row}
use Rattle.rc_mutation.specs.Fragments.{has_any, is_written}
use Rattle.rc_position.specs.declared.comps.Comp.{Comp}
use Rattle.rc_position.specs.declared.comps.Comp.TheVariants as comps
use Rattle.rc_position.specs.declared.slices.Slice.{Slice}
use Rattle.rc_position.specs.Position.{pos_cmp, start_bound, end_bound, IsBefore}
use Rattle.rc_query.specs.Answer.{whole_slice}
use Rattle.rc_rowcode.specs.Spelling.{IsTomb}
use Rattle.rc_schema.specs.declared.kinds.CkKind.{CkKind}
use Rattle.rc_schema.specs.declared.kinds.CkKind.TheVariants.{Int, Text}
use Rattle.rc_schema.specs.SchemaValue.{SchemaValue, is_schema}
use Rattle.rc_spelling.specs.Words.{is_word, words}
use Rattle.rc_schema.specs.laws.SchemaTexts.{read_is_within}
use Rattle.rc_schema.specs.SchemaText.{schema_of}
use Rattle.rc_spelling.specs.Numbers.{signed_of, count_of}
use Rattle.rc_spelling.specs.Printed.{AreBytes, IsComponent}
use Rattle.rc_writes.specs.Single.{is_single}
use Rattle.rc_lines.specs.declared.commands.Command.{Command}
use Rattle.rc_lines.specs.declared.commands.Command.TheVariants.{SetSchema, Read, Close, Flush, FlushBegin, FlushStep, Evict, Compact, Clean, Stats}
use Rattle.rc_lines.specs.declared.shapes.Bound.{Bound}
use Rattle.rc_lines.specs.declared.shapes.Change.{Change}
use Rattle.rc_lines.specs.declared.shapes.Change.TheVariants.{OfRow, OfStatic, OfRange, OfPartition}
use Rattle.rc_lines.specs.declared.shapes.Shape.{Shape}
use Rattle.rc_lines.specs.declared.shapes.Shape.TheVariants.{Plain, Open, Written}
use Rattle.rc_lines.specs.declared.shapes.Stamp.{Stamp}
use Rattle.rc_lines.specs.declared.shapes.Stamp.TheVariants.{Alive, Gone}
use Rattle.rc_lines.specs.Fits.{CommandFits}
use Rattle.rc_lines.specs.Grammar.{longest_line, is_comment, schema_said, parse}
use Rattle.rc_lines.specs.calls.ByShape.{shape_meaning, line_meaning, parse_by_shape}
use Rattle.rc_lines.specs.Lines.{pieces_said, cells_said, parts_said, change_said, command_line, AreComponents, AreStamped, HasOneStamp, IsSayableRow, IsSayableWrite, IsSayableCommand}
use Rattle.rc_lines.specs.Parts.{without_front, stamp_of, key_of, pieces_of}
use Rattle.rc_lines.specs.calls.ShapeParts.{tomb_of, named_cells, some_cells_of, no_bound, range_start, range_end}
use Rattle.rc_lines.specs.Plain.{IsCount}
use Rattle.rc_lines.specs.Sayable.{cell_stamp, shape_line, IsStamped, IsStampInRange}
use Rattle.rc_lines.specs.calls.Shapes.{row_change, insert_change, update_change, unset_change, delete_change, range_deleted, partition_deleted, static_set, static_removed, insert_of, update_of, unset_of, delete_of, delrange_of, delpart_of, static_change, unstatic_of, cell_change_of, deletion_of, change_of, write_of, open_shape, open_of, bare_of, begin_of, command_of_number, command_of_two_words, read_of, step_of, command_of_three_words, plain_of, shape_of}
use Rattle.rc_lines.specs.UnderSchema.{component_of, prefix_of, slice_between, is_partition_key}
use Rattle.rc_lines.specs.calls.ShapeMeaning.{key_under, is_short_slice, slice_under, cell_named, columns_from, by_column, key_said, slice_said, is_short_change, has_wrong_key, has_unknown_column, is_within, mutation_of, refusal_of, command_of, meaning}
use Rattle.rc_lines.specs.laws.ByShape.{by_shape}
use Rattle.rc_lines.specs.laws.Fitting.{columns_ascend}
use Rattle.rc_lines.specs.laws.FittingCommands.{commands_fit, is_less, line_cases, no_cause, same_command}
use Rattle.rc_lines.specs.laws.Halves.{both}
use Rattle.rc_lines.specs.laws.Heard.{tested, words_heard, key_heard, prefix_heard, begin_heard, end_heard, count_heard, signed_heard, stamp_heard, tomb_heard, cells_heard, some_cells_heard, AreAllBytes, HasBytes, AreOf}
use Rattle.rc_lines.specs.laws.Lines.{command_back}
use Rattle.rc_lines.specs.laws.Said.{If, after, made, chosen, either}

weaker : {X : Type 0} (P Q : X → Type 0) (o : Option X) → If Q o → ((x : X) → Q x → P x) → If P o
weaker P Q None q h = tt
weaker P Q (Some x) q h = h x q

-- ---- what is written

-- cells of one stamp
abbrev OfOneStamp : List (List ℕ × Cell) → Type 0
OfOneStamp cells = (stamp : Stamp) × IsStampInRange stamp × AreOf stamp cells

-- a marker with cells of its timestamp, a tombstone alone, or cells of one stamp
abbrev HeardRow : Option ℤ → Option Tomb → List (List ℕ × Cell) → Type 0
HeardRow (Some ts) None cells = FitsSigned w64 ts × AreOf (Alive ts) cells
HeardRow (Some ts) (Some tomb) cells = ⊥
HeardRow None (Some tomb) [] = IsTomb tomb
HeardRow None (Some tomb) (cell ∷ cells) = ⊥
HeardRow None None cells = OfOneStamp cells

-- what a line says of a write
abbrev Heard : Change → Type 0
Heard (OfRow ck marker tomb cells) = AreAllBytes ck × HeardRow marker tomb cells
Heard (OfStatic cells) = OfOneStamp cells
Heard (OfRange from to tomb) = HasBytes from × (HasBytes to × IsTomb tomb)
Heard (OfPartition tomb) = IsTomb tomb

-- a signed number within 64 bits
abbrev IsSigned : ℤ → Type 0
IsSigned number = FitsSigned w64 number

row_heard : (ck : List ℕ) (marker : Option ℤ) (tomb : Option Tomb) (cells : Option (List (List ℕ × Cell))) → AreBytes ck → If (HeardRow marker tomb) cells → If Heard (row_change ck marker tomb cells)
unfolding row_change
row_heard ck marker tomb cells are h =
    after Heard AreAllBytes (λ pieces. option_map (λ named. OfRow pieces marker tomb named) cells) (pieces_of ck) (prefix_heard ck are)
    (λ pieces all. made Heard (HeardRow marker tomb) (λ named. OfRow pieces marker tomb named) cells h (λ named is. (all, is)))

inserted_heard : (ck stamp : List ℕ) (sets : List (List ℕ)) → AreBytes ck → AreAllBytes sets → If Heard (insert_change ck stamp sets)
unfolding insert_change
inserted_heard ck stamp sets are all =
    after Heard IsSigned (λ ts. row_change ck (Some ts) None (named_cells (Alive ts) sets)) (stamp_of stamp) (stamp_heard stamp)
    (λ ts fits. row_heard ck (Some ts) None (named_cells (Alive ts) sets) are (weaker (HeardRow (Some ts) None) (AreOf (Alive ts)) (named_cells (Alive ts) sets) (cells_heard (Alive ts) sets all) (λ cells is. (fits, is))))

updated_heard : (ck stamp : List ℕ) (sets : List (List ℕ)) → AreBytes ck → AreAllBytes sets → If Heard (update_change ck stamp sets)
unfolding update_change
updated_heard ck stamp sets are all =
    after Heard IsSigned (λ ts. row_change ck None None (some_cells_of (Alive ts) sets)) (stamp_of stamp) (stamp_heard stamp)
    (λ ts fits. row_heard ck None None (some_cells_of (Alive ts) sets) are
    (weaker OfOneStamp (AreOf (Alive ts)) (some_cells_of (Alive ts) sets) (some_cells_heard (Alive ts) sets all) (λ cells is. (Alive ts, fits, is))))

removed_heard : (ck stamp time : List ℕ) (names : List (List ℕ)) → AreBytes ck → AreAllBytes names → If Heard (unset_change ck stamp time names)
unfolding unset_change
removed_heard ck stamp time names are all =
    after Heard IsTomb (λ tomb. row_change ck None None (some_cells_of (Gone tomb) names)) (tomb_of stamp time) (tomb_heard stamp time)
    (λ tomb fits. row_heard ck None None (some_cells_of (Gone tomb) names) are
    (weaker OfOneStamp (AreOf (Gone tomb)) (some_cells_of (Gone tomb) names) (some_cells_heard (Gone tomb) names all) (λ cells is. (Gone tomb, fits, is))))

deleted_heard : (ck stamp time : List ℕ) → AreBytes ck → If Heard (delete_change ck stamp time)
unfolding delete_change
deleted_heard ck stamp time are =
    after Heard IsTomb (λ tomb. row_change ck None (Some tomb) (Some [])) (tomb_of stamp time) (tomb_heard stamp time) (λ tomb fits. row_heard ck None (Some tomb) (Some []) are fits)

range_heard : (from to stamp time : List ℕ) → AreBytes from → AreBytes to → If Heard (range_deleted from to stamp time)
unfolding range_deleted
range_heard from to stamp time p q =
    after Heard HasBytes (λ f. option_and_then (λ t. option_map (λ tomb. OfRange f t tomb) (tomb_of stamp time)) (range_end to)) (range_start from) (begin_heard from p)
    (λ f a. after Heard HasBytes (λ t. option_map (λ tomb. OfRange f t tomb) (tomb_of stamp time)) (range_end to) (end_heard to q)
    (λ t b. made Heard IsTomb (λ tomb. OfRange f t tomb) (tomb_of stamp time) (tomb_heard stamp time) (λ tomb is. (a, (b, is)))))

partition_heard : (stamp time : List ℕ) → If Heard (partition_deleted stamp time)
unfolding partition_deleted
partition_heard stamp time = made Heard IsTomb (λ tomb. OfPartition tomb) (tomb_of stamp time) (tomb_heard stamp time) (λ tomb is. is)

static_set_heard : (stamp : List ℕ) (sets : List (List ℕ)) → AreAllBytes sets → If Heard (static_set stamp sets)
unfolding static_set
static_set_heard stamp sets all =
    after Heard IsSigned (λ ts. option_map (λ cells. OfStatic cells) (some_cells_of (Alive ts) sets)) (stamp_of stamp) (stamp_heard stamp)
    (λ ts fits. made Heard (AreOf (Alive ts)) (λ cells. OfStatic cells) (some_cells_of (Alive ts) sets) (some_cells_heard (Alive ts) sets all) (λ cells is. (Alive ts, fits, is)))

static_removed_heard : (stamp time : List ℕ) (names : List (List ℕ)) → AreAllBytes names → If Heard (static_removed stamp time names)
unfolding static_removed
static_removed_heard stamp time names all =
    after Heard IsTomb (λ tomb. option_map (λ cells. OfStatic cells) (some_cells_of (Gone tomb) names)) (tomb_of stamp time) (tomb_heard stamp time)
    (λ tomb fits. made Heard (AreOf (Gone tomb)) (λ cells. OfStatic cells) (some_cells_of (Gone tomb) names) (some_cells_heard (Gone tomb) names all) (λ cells is. (Gone tomb, fits, is)))

insert_heard : (words : List (List ℕ)) → AreAllBytes words → If Heard (insert_of words)
insert_heard [] are = tt
insert_heard (ck ∷ []) are = tt
insert_heard (ck ∷ stamp ∷ sets) are = inserted_heard ck stamp sets are.0 are.1.1

update_heard : (words : List (List ℕ)) → AreAllBytes words → If Heard (update_of words)
update_heard [] are = tt
update_heard (ck ∷ []) are = tt
update_heard (ck ∷ stamp ∷ sets) are = updated_heard ck stamp sets are.0 are.1.1

unset_heard : (words : List (List ℕ)) → AreAllBytes words → If Heard (unset_of words)
unset_heard [] are = tt
unset_heard (ck ∷ []) are = tt
unset_heard (ck ∷ stamp ∷ []) are = tt
unset_heard (ck ∷ stamp ∷ time ∷ names) are = removed_heard ck stamp time names are.0 are.1.1.1

delete_heard : (words : List (List ℕ)) → AreAllBytes words → If Heard (delete_of words)
delete_heard [] are = tt
delete_heard (ck ∷ []) are = tt
delete_heard (ck ∷ stamp ∷ []) are = tt
delete_heard (ck ∷ stamp ∷ time ∷ []) are = deleted_heard ck stamp time are.0
delete_heard (ck ∷ stamp ∷ time ∷ more ∷ words) are = tt

delrange_heard : (words : List (List ℕ)) → AreAllBytes words → If Heard (delrange_of words)
delrange_heard [] are = tt
delrange_heard (from ∷ []) are = tt
delrange_heard (from ∷ to ∷ []) are = tt
delrange_heard (from ∷ to ∷ stamp ∷ []) are = tt
delrange_heard (from ∷ to ∷ stamp ∷ time ∷ []) are = range_heard from to stamp time are.0 are.1.0
delrange_heard (from ∷ to ∷ stamp ∷ time ∷ more ∷ words) are = tt

delpart_heard : (words : List (List ℕ)) → If Heard (delpart_of words)
delpart_heard [] = tt
delpart_heard (stamp ∷ []) = tt
delpart_heard (stamp ∷ time ∷ []) = partition_heard stamp time
delpart_heard (stamp ∷ time ∷ more ∷ words) = tt

static_heard : (words : List (List ℕ)) → AreAllBytes words → If Heard (static_change words)
static_heard [] are = tt
static_heard (stamp ∷ sets) are = static_set_heard stamp sets are.1

unstatic_heard : (words : List (List ℕ)) → AreAllBytes words → If Heard (unstatic_of words)
unstatic_heard [] are = tt
unstatic_heard (stamp ∷ []) are = tt
unstatic_heard (stamp ∷ time ∷ names) are = static_removed_heard stamp time names are.1.1

cell_change_heard : (verb : List ℕ) (words : List (List ℕ)) → AreAllBytes words → If Heard (cell_change_of verb words)
unfolding cell_change_of
cell_change_heard verb words are =
    chosen Heard (is_word verb (codes "insert")) (insert_of words) _ (insert_heard words are)
    (chosen Heard (is_word verb (codes "update")) (update_of words) _ (update_heard words are)
    (chosen Heard (is_word verb (codes "unset")) (unset_of words) _ (unset_heard words are)
    (chosen Heard (is_word verb (codes "static")) (static_change words) _ (static_heard words are)
    (chosen Heard (is_word verb (codes "unstatic")) (unstatic_of words) None (unstatic_heard words are) tt))))

deletion_heard : (verb : List ℕ) (words : List (List ℕ)) → AreAllBytes words → If Heard (deletion_of verb words)
unfolding deletion_of
deletion_heard verb words are =
    chosen Heard (is_word verb (codes "delete")) (delete_of words) _ (delete_heard words are)
    (chosen Heard (is_word verb (codes "delrange")) (delrange_of words) _ (delrange_heard words are)
    (chosen Heard (is_word verb (codes "delpart")) (delpart_of words) None (delpart_heard words) tt))

-- ---- plain commands

-- a command that one line can say under each schema
abbrev IsPlain : Command → Type 0
IsPlain command = IsSayableCommand command × ((schema : SchemaValue) → is_some (command_line schema command) ≡ true)

bare_heard : (verb : List ℕ) → If IsPlain (bare_of verb)
unfolding bare_of
bare_heard verb =
    chosen IsPlain (is_word verb (codes "flush")) (Some Flush) _ (tt, λ schema. refl) (chosen IsPlain (is_word verb (codes "stats")) (Some Stats) None (tt, λ schema. refl) tt)

told_heard : (verb : List ℕ) (n : ℕ) → IsCount n → If IsPlain (command_of_number verb n)
unfolding command_of_number
told_heard verb n is =
    chosen IsPlain (is_word verb (codes "close")) (Some (Close n)) _ (is, λ schema. refl)
    (chosen IsPlain (is_word verb (codes "evict")) (Some (Evict n)) _ (is, λ schema. refl)
    (chosen IsPlain (is_word verb (codes "compact")) (Some (Compact n)) _ (is, λ schema. refl)
    (chosen IsPlain (is_word verb (codes "clean")) (Some (Clean n)) None (is, λ schema. refl) tt)))

numbered_heard : (verb word : List ℕ) → If IsPlain (command_of_two_words verb word)
unfolding command_of_two_words
numbered_heard verb word =
    chosen IsPlain (is_word verb (codes "flush")) (begin_of word) _ (chosen IsPlain (is_word word (codes "begin")) (Some FlushBegin) None (tt, λ schema. refl) tt)
    (after IsPlain IsCount (command_of_number verb) (count_of 4294967295 word) (count_heard word) (told_heard verb))

read_heard : (id count : List ℕ) → If IsPlain (read_of id count)
unfolding read_of
read_heard id count =
    after IsPlain IsCount (λ i. option_map (λ n. Read i n) (count_of 4294967295 count)) (count_of 4294967295 id) (count_heard id)
    (λ i is. made IsPlain IsCount (λ n. Read i n) (count_of 4294967295 count) (count_heard count) (λ n other. ((is, other), λ schema. refl)))

step_heard : (word count : List ℕ) → If IsPlain (step_of word count)
unfolding step_of
step_heard word count =
    chosen IsPlain (is_word word (codes "step")) _ None (made IsPlain IsCount (λ n. FlushStep n) (count_of 4294967295 count) (count_heard count) (λ n is. (is, λ schema. refl))) tt

counted_heard : (verb one other : List ℕ) → If IsPlain (command_of_three_words verb one other)
unfolding command_of_three_words
counted_heard verb one other =
    chosen IsPlain (is_word verb (codes "read")) (read_of one other) _ (read_heard one other)
    (chosen IsPlain (is_word verb (codes "flush")) (step_of one other) None (step_heard one other) tt)

plain_heard : (verb : List ℕ) (words : List (List ℕ)) → If IsPlain (plain_of verb words)
plain_heard verb [] = bare_heard verb
plain_heard verb (one ∷ []) = numbered_heard verb one
plain_heard verb (one ∷ other ∷ []) = counted_heard verb one other
plain_heard verb (one ∷ other ∷ more ∷ words) = tt

-- ---- shapes

-- what a line says
abbrev HeardShape : Shape → Type 0
HeardShape (Plain command) = IsPlain command
HeardShape (Open id key from to) = IsCount id × (AreBytes key × (HasBytes from × HasBytes to))
HeardShape (Written key change) = AreBytes key × Heard change

opened_heard : (id key : List ℕ) (from to : Option Bound) → AreBytes key → If HasBytes from → If HasBytes to → If HeardShape (open_shape id key from to)
unfolding open_shape
opened_heard id key from to are p q =
    after HeardShape IsCount (λ i. option_and_then (λ k. option_and_then (λ f. option_map (λ t. Open i k f t) to) from) (key_of key)) (count_of 4294967295 id) (count_heard id)
    (λ i n. after HeardShape AreBytes (λ k. option_and_then (λ f. option_map (λ t. Open i k f t) to) from) (key_of key) (key_heard key are)
    (λ k is. after HeardShape HasBytes (λ f. option_map (λ t. Open i k f t) to) from p (λ f a. made HeardShape HasBytes (λ t. Open i k f t) to q (λ t b. (n, (is, (a, b)))))))

open_heard : (words : List (List ℕ)) → AreAllBytes words → If HeardShape (open_of words)
open_heard [] are = tt
open_heard (id ∷ []) are = tt
open_heard (id ∷ key ∷ []) are = opened_heard id key (Some no_bound) (Some no_bound) are.1.0 tt tt
open_heard (id ∷ key ∷ from ∷ []) are = tt
open_heard (id ∷ key ∷ from ∷ to ∷ []) are = opened_heard id key (range_start from) (range_end to) are.1.0 (begin_heard from are.1.1.0) (end_heard to are.1.1.1.0)
open_heard (id ∷ key ∷ from ∷ to ∷ more ∷ words) are = tt

write_heard : (verb : List ℕ) (words : List (List ℕ)) → AreAllBytes words → If HeardShape (write_of verb words)
write_heard verb [] are = tt
write_heard verb (key ∷ words) are =
    after HeardShape AreBytes (λ k. option_map (λ change. Written k change) (change_of verb words)) (key_of key) (key_heard key are.0)
    (λ k is. made HeardShape Heard (λ change. Written k change) (change_of verb words)
    (either Heard (cell_change_of verb words) (deletion_of verb words) (cell_change_heard verb words are.1) (deletion_heard verb words are.1)) (λ change h. (is, h)))

shape_heard : (words : List (List ℕ)) → AreAllBytes words → If HeardShape (shape_of words)
shape_heard [] are = tt
shape_heard (verb ∷ words) are =
    either HeardShape (option_map (λ command. Plain command) (plain_of verb words)) (if is_word verb (codes "open") then open_of words else write_of verb words)
    (made HeardShape IsPlain (λ command. Plain command) (plain_of verb words) (plain_heard verb words) (λ command is. is))
    (chosen HeardShape (is_word verb (codes "open")) (open_of words) (write_of verb words) (open_heard words are.1) (write_heard verb words are.1))

-- ---- under a schema

component_heard : (kind : CkKind) (piece : List ℕ) → AreBytes piece → If IsComponent (component_of kind piece)
component_heard Int piece are = made IsComponent IsSigned (λ number. comps.Int number) (signed_of piece) (signed_heard piece) (λ number is. is)
component_heard Text piece are = are

prefix_heard_under : (pieces : List (List ℕ)) (kinds : List CkKind) → AreAllBytes pieces → If AreComponents (prefix_of pieces kinds)
prefix_heard_under [] kinds are = tt
prefix_heard_under (piece ∷ pieces) [] are = tt
prefix_heard_under (piece ∷ pieces) (kind ∷ kinds) are =
    after AreComponents IsComponent (λ component. option_map (λ key. component ∷ key) (prefix_of pieces kinds)) (component_of kind piece) (component_heard kind piece are.0)
    (λ component is. made AreComponents AreComponents (λ key. component ∷ key) (prefix_of pieces kinds) (prefix_heard_under pieces kinds are.1) (λ key rest. (is, rest)))

unwrapped : {X : Type 0} (P : X → Type 0) (o : Option X) (other : X) → If P o → P other → P (unwrap_or o other)
unwrapped P None other p q = q
unwrapped P (Some x) other p q = p

key_heard_under : (pieces : List (List ℕ)) (schema : SchemaValue) → AreAllBytes pieces → AreComponents (key_said pieces schema)
key_heard_under pieces schema are =
    unwrapped AreComponents (key_under pieces schema.ck) [] (chosen AreComponents (length pieces == length schema.ck) (prefix_of pieces schema.ck) None (prefix_heard_under pieces schema.ck are) tt) tt

-- a slice whose first bound is below its second, of numbers within 64 bits and bytes
abbrev IsHeardSlice : Slice → Type 0
IsHeardSlice slice = IsBefore slice.from slice.to × (AreComponents slice.from.prefix × AreComponents slice.to.prefix)

start_heard : (prefix : List Comp) (inclusive : Bool) → AreComponents prefix → AreComponents (start_bound prefix inclusive).prefix
start_heard prefix true are = are
start_heard prefix false are = are

end_heard_under : (prefix : List Comp) (inclusive : Bool) → AreComponents prefix → AreComponents (end_bound prefix inclusive).prefix
end_heard_under prefix true are = are
end_heard_under prefix false are = are

slice_heard : (from to : Bound) (schema : SchemaValue) → HasBytes from → HasBytes to → IsHeardSlice (slice_said from to schema)
unfolding slice_under slice_between pos_cmp
slice_heard from to schema p q =
    unwrapped IsHeardSlice (slice_under from to schema.ck) whole_slice
    (after IsHeardSlice AreComponents (λ f. option_and_then (λ t. slice_between (start_bound f from.inclusive) (end_bound t to.inclusive)) (prefix_of to.pieces schema.ck)) (prefix_of from.pieces schema.ck)
    (prefix_heard_under from.pieces schema.ck p)
    (λ f a. after IsHeardSlice AreComponents (λ t. slice_between (start_bound f from.inclusive) (end_bound t to.inclusive)) (prefix_of to.pieces schema.ck) (prefix_heard_under to.pieces schema.ck q)
    (λ t b. tested IsHeardSlice (is_lt (pos_cmp (start_bound f from.inclusive) (end_bound t to.inclusive))) (record { from = start_bound f from.inclusive; to = end_bound t to.inclusive })
    (λ e. (is_less (pos_cmp (start_bound f from.inclusive) (end_bound t to.inclusive)) e, (start_heard f from.inclusive a, end_heard_under t to.inclusive b))))))
    (refl, (tt, tt))

cell_heard_at : (stamp : Stamp) (name : List ℕ) (cells : List (List ℕ × Cell)) → AreOf stamp cells → If (IsStamped stamp) (cell_named name cells)
cell_heard_at stamp name [] are = tt
cell_heard_at stamp name (e ∷ cells) are = chosen (IsStamped stamp) (is_word e.0 name) (Some e.1) (cell_named name cells) are.0 (cell_heard_at stamp name cells are.1)

-- cells of a stamp, by column
abbrev AreColumnsOf : Stamp → List (ℕ × Cell) → Type 0
AreColumnsOf stamp cells = AllByRecursion (λ e. IsStamped stamp e.1) cells

one_column : (stamp : Stamp) (column : ℕ) (o : Option Cell) (rest : List (ℕ × Cell)) → If (IsStamped stamp) o → AreColumnsOf stamp rest → AreColumnsOf stamp (option_to_list (option_map (λ cell. (column, cell)) o) ++ rest)
one_column stamp column None rest p q = q
one_column stamp column (Some cell) rest p q = (p, q)

columns_heard : (stamp : Stamp) (column : ℕ) (names : List (List ℕ)) (cells : List (List ℕ × Cell)) → AreOf stamp cells → AreColumnsOf stamp (columns_from column names cells)
columns_heard stamp column [] cells are = tt
columns_heard stamp column (name ∷ names) cells are =
    one_column stamp column (cell_named name cells) (columns_from (column + 1) names cells) (cell_heard_at stamp name cells are) (columns_heard stamp (column + 1) names cells are)

by_column_heard : (stamp : Stamp) (names : List (List ℕ)) (cells : List (List ℕ × Cell)) → AreOf stamp cells → AreColumnsOf stamp (by_column names cells)
unfolding by_column
by_column_heard stamp names cells are = columns_heard stamp 0 names cells are

same_stamp : (stamp : Stamp) (cell : Cell) → IsStamped stamp cell → stamp ≡ cell_stamp cell
same_stamp stamp (Live ts value) is = is.0
same_stamp stamp (Dead ts dt) is = is

one_stamp : (stamp : Stamp) (cells : List (ℕ × Cell)) → IsStampInRange stamp → AreColumnsOf stamp cells → HasOneStamp None None cells
one_stamp stamp [] is are = tt
one_stamp stamp (e ∷ cells) is are = subst (λ (s : Stamp). AreStamped s (e ∷ cells)) (same_stamp stamp e.1 are.0) (is, are)

row_stamp : (names : List (List ℕ)) (marker : Option ℤ) (tomb : Option Tomb) (cells : List (List ℕ × Cell)) → HeardRow marker tomb cells → HasOneStamp marker tomb (by_column names cells)
row_stamp names (Some ts) None cells h = (h.0, by_column_heard (Alive ts) names cells h.1)
row_stamp names (Some ts) (Some tomb) cells h = absurd h
row_stamp names None (Some tomb) [] h = h
row_stamp names None (Some tomb) (cell ∷ cells) h = absurd h
row_stamp names None None cells h = one_stamp h.0 (by_column names cells) h.1 (by_column_heard h.0 names cells h.2)

-- a row with its key, where something is written of it
kept_row : (written : Bool) (key : List Comp) (row : Row) → AreComponents key → IsSayableRow row → AllByRecursion (λ (e : List Comp × Row). AreComponents e.0 × IsSayableRow e.1) (if written then (key, row) ∷ [] else [])
kept_row true key row are is = ((are, is), tt)
kept_row false key row are is = tt

write_sayable : (schema : SchemaValue) (change : Change) → Heard change → IsSayableWrite (mutation_of schema change)
write_sayable schema (OfRow ck marker tomb cells) h =
    record {
      pt = tt;
      statics = (refl, tt);
      rows = kept_row (is_written (record { marker = marker; tomb = tomb; cells = by_column schema.cols cells })) (key_said ck schema) (record { marker = marker; tomb = tomb; cells = by_column schema.cols cells })
          (key_heard_under ck schema h.0) (columns_ascend schema.cols cells, row_stamp schema.cols marker tomb cells h.1);
      ranges = tt;
    }
write_sayable schema (OfStatic cells) h =
    record {
      pt = tt;
      statics = (columns_ascend schema.statics cells, one_stamp h.0 (by_column schema.statics cells) h.1 (by_column_heard h.0 schema.statics cells h.2));
      rows = tt;
      ranges = tt;
    }
write_sayable schema (OfRange from to tomb) h =
    let slice = slice_heard from to schema h.0 h.1.0 in
    record { pt = tt; statics = (refl, tt); rows = tt; ranges = ((slice.0, (slice.1.0, (slice.1.1, h.1.1))), tt) }
write_sayable schema (OfPartition tomb) h = record { pt = h; statics = (refl, tt); rows = tt; ranges = tt }

-- ---- the line is there

-- what was written of a row is in a write to one place
is_there : (written : Bool) (key : List Comp) (row : Row) → is_single (record { pt = None; statics = empty_row; rows = if written then (key, row) ∷ [] else []; ranges = [] }) ≡ true → written ≡ true
is_there true key row h = refl
is_there false key row h = absurd (cc)

some_cells_line : (key : List ℕ) (ck names : List (List ℕ)) (cells : List (ℕ × Cell)) → has_any cells ≡ true → is_some (shape_line (Written key (OfRow ck None None (cells_said names cells)))) ≡ true
some_cells_line key ck names [] h = absurd (cc)
some_cells_line key ck names (e ∷ cells) h = refl

no_columns : (column : ℕ) (names : List (List ℕ)) → columns_from column names [] ≡ []
no_columns column [] = refl
no_columns column (name ∷ names) = no_columns (column + 1) names

row_line : (key : List ℕ) (ck names : List (List ℕ)) (marker : Option ℤ) (tomb : Option Tomb) (cells : List (List ℕ × Cell)) → HeardRow marker tomb cells
    → is_written (record { marker = marker; tomb = tomb; cells = by_column names cells }) ≡ true → is_some (shape_line (Written key (OfRow ck marker tomb (cells_said names (by_column names cells))))) ≡ true
unfolding by_column
row_line key ck names (Some ts) None cells h w = refl
row_line key ck names (Some ts) (Some tomb) cells h w = absurd h
row_line key ck names None (Some tomb) [] h w = ap (λ (cells : List (ℕ × Cell)). is_some (shape_line (Written key (OfRow ck None (Some tomb) (cells_said names cells))))) (no_columns 0 names)
row_line key ck names None (Some tomb) (cell ∷ cells) h w = absurd h
row_line key ck names None None cells h w = some_cells_line key ck names (columns_from 0 names cells) w

static_line : (key : List ℕ) (names : List (List ℕ)) (cells : List (ℕ × Cell)) → is_single (record { pt = None; statics = record { marker = None; tomb = None; cells = cells }; rows = []; ranges = [] }) ≡ true
    → is_some (shape_line (Written key (OfStatic (cells_said names cells)))) ≡ true
static_line key names [] h = absurd (cc)
static_line key names (e ∷ cells) h = refl

write_line : (schema : SchemaValue) (key : List ℕ) (change : Change) → Heard change → is_single (mutation_of schema change) ≡ true → is_some (shape_line (Written key (change_said schema (mutation_of schema change)))) ≡ true
write_line schema key (OfRow ck marker tomb cells) h one =
    let row : Row = record { marker = marker; tomb = tomb; cells = by_column schema.cols cells } in
    let w = is_there (is_written row) (key_said ck schema) row one in
    ap (λ b. is_some (shape_line (Written key (parts_said schema None (if b then (key_said ck schema, row) ∷ [] else []) [] empty_row)))) w
    ∙ row_line key (pieces_said (key_said ck schema)) schema.cols marker tomb cells h.1 w
write_line schema key (OfStatic cells) h one = static_line key schema.statics (by_column schema.statics cells) one
write_line schema key (OfRange from to tomb) h one = refl
write_line schema key (OfPartition tomb) h one = refl

-- ---- the commands

-- a command that one line can say, with the line
abbrev HasLine : SchemaValue → Command → Type 0
HasLine schema command = IsSayableCommand command × (is_some (command_line schema command) ≡ true)

command_heard : (schema : SchemaValue) (shape : Shape) → HeardShape shape → is_within schema shape ≡ true → CommandFits schema (command_of schema shape) → HasLine schema (command_of schema shape)
command_heard schema (Plain command) h within fits = (h.0, h.1 schema)
command_heard schema (Open id key from to) h within fits =
    ((h.0, ((h.1.0, (both (is_partition_key key) (is_short_slice (slice_said from to schema)) within).0), (slice_heard from to schema h.1.1.0 h.1.1.1).1)), refl)
command_heard schema (Written key change) h within fits =
    (((h.0, (both (is_partition_key key) (is_short_change schema change) within).0), write_sayable schema change h.1), write_line schema key change h.1 fits.0)

meaning_heard : (schema : SchemaValue) (shape : Shape) (command : Command) → HeardShape shape → CommandFits schema command → meaning schema shape ≡ Ok command → HasLine schema command
unfolding meaning refusal_of
meaning_heard schema shape command h fits e =
    let n = no_cause (has_wrong_key schema shape) (has_unknown_column schema shape) (is_within schema shape) (command_of schema shape) command e in
    subst (HasLine schema) n.3 (command_heard schema shape h n.2 (subst (CommandFits schema) (sym n.3) fits))

shape_meaning_heard : (schema : SchemaValue) (o : Option Shape) (command : Command) → If HeardShape o → CommandFits schema command → shape_meaning (Some schema) o ≡ Ok command → HasLine schema command
shape_meaning_heard schema None command p fits e = absurd (cc)
shape_meaning_heard schema (Some shape) command p fits e = meaning_heard schema shape command p fits e

if_heard : (lists : SchemaValue) (o : Option (List ℕ)) → option_and_then schema_of o ≡ Some lists → is_schema lists ≡ true
if_heard lists None e = absurd (cc)
if_heard lists (Some text) e = read_is_within text lists e

schema_heard : (line : List ℕ) (lists : SchemaValue) → schema_said line ≡ Some lists → is_schema lists ≡ true
unfolding schema_said
schema_heard line lists e = if_heard lists (without_front (codes "schema ") line) e

said_heard : (schema : SchemaValue) (line : List ℕ) (o : Option SchemaValue) (command : Command) → AreBytes line → schema_said line ≡ o → CommandFits schema command → line_meaning (Some schema) line o ≡ Ok command → HasLine schema command
said_heard schema line (Some lists) command are e fits h = subst (HasLine schema) (same_command (SetSchema lists) command h) (schema_heard line lists e, refl)
said_heard schema line None command are e fits h = shape_meaning_heard schema (shape_of (words line)) command (shape_heard (words line) (words_heard (λ byte. byte == 32) line are)) fits h

shape_commands_sayable : (schema : SchemaValue) (line : List ℕ) (command : Command) → AreBytes line → CommandFits schema command → parse_by_shape (Some schema) line ≡ Ok command → HasLine schema command
unfolding parse_by_shape
shape_commands_sayable schema line command are fits h =
    line_cases (HasLine schema) (nat_lt longest_line (length line)) (is_comment line) (line_meaning (Some schema) line (schema_said line)) command (tt, refl)
    (said_heard schema line (schema_said line) command are refl fits) h

-- each command that a line of bytes gives is one that one line can say, and has a line
pub commands_sayable : (schema : SchemaValue) (line : List ℕ) (command : Command) → AreBytes line → parse (Some schema) line ≡ Ok command → IsSayableCommand command × (is_some (command_line schema command) ≡ true)
commands_sayable schema line command are h = shape_commands_sayable schema line command are (commands_fit schema line command h) (sym (by_shape (Some schema) line) ∙ h)

its_line : (schema : SchemaValue) (command : Command) (o : Option (List ℕ)) → command_line schema command ≡ o → is_some o ≡ true → ((line : List ℕ) → command_line schema command ≡ Some line → parse (Some schema) line ≡ Ok command)
    → (own : List ℕ) × (command_line schema command ≡ Some own) × (parse (Some schema) own ≡ Ok command)
its_line schema command None e some back = absurd (cc)
its_line schema command (Some line) e some back = (line, e, back line e)

-- each command that a line of bytes gives has its line, which gives it too
pub each_has_its_line : (schema : SchemaValue) (line : List ℕ) (command : Command) → is_schema schema ≡ true → AreBytes line → parse (Some schema) line ≡ Ok command
    → (own : List ℕ) × (command_line schema command ≡ Some own) × (parse (Some schema) own ≡ Ok command)
each_has_its_line schema line command is are h =
    let can = commands_sayable schema line command are h in
    its_line schema command (command_line schema command) refl can.1 (λ own e. command_back schema command own is (commands_fit schema line command h) can.0 e)
