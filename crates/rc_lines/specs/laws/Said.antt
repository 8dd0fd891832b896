-- What a line says before a schema is known: something is written of a row, and a plain command is neither a write nor an opening.
use Rattle.std.proofs.Common.{◌≡◌, ℕ, ℤ, Bool, true, false, ◌||◌, List, [], ◌∷◌, refl, codes}
use Rattle.std.specs.Prelude.{if◌then◌else◌, option_and_then}
use Rattle.std.specs.declared.option.Option.{Option}
use Rattle.std.specs.declared.option.Option.TheVariants.{Some, None}
use Rattle.std.specs.Option.{option_map, option_or, is_some}
use Rattle.rc_cell.specs.declared.writes.Cell.{Cell}
use Rattle.rc_cell.specs.declared.writes.Tomb.{Tomb}
use Rattle.rc_mutation.specs.Fragments.{has_any}
use Rattle.rc_schema.specs.SchemaValue.{SchemaValue}
use Rattle.rc_spelling.specs.Numbers.{count_of}
use Rattle.rc_lines.specs.declared.commands.Command.{Command}
use Rattle.rc_lines.specs.declared.commands.Command.TheVariants.{Read, Close, Flush, FlushBegin, FlushStep, Evict, Compact, Clean, Stats}
use Rattle.rc_lines.specs.declared.shapes.Bound.{Bound}
use Rattle.rc_lines.specs.declared.shapes.Change.{Change}
use Rattle.rc_lines.specs.declared.shapes.Change.TheVariants.{OfRow, OfStatic, OfRange, OfPartition}
use Rattle.rc_lines.specs.declared.shapes.Shape.{Shape}
use Rattle.rc_lines.specs.declared.shapes.Shape.TheVariants.{Plain, Open, Written}
use Rattle.rc_lines.specs.declared.shapes.Stamp.{Stamp}
use Rattle.rc_lines.specs.declared.shapes.Stamp.TheVariants.{Alive, Gone}
use Rattle.rc_lines.specs.Fits.{CommandFits}
use Rattle.rc_lines.specs.Parts.{pieces_of, stamp_of, key_of}
use Rattle.rc_lines.specs.calls.ShapeParts.{are_distinct, tomb_of, cell_said, each_cell_of, named_cells, some_cells_of, no_bound, range_start, range_end}
use Rattle.rc_spelling.specs.Words.{is_word}
use Rattle.rc_lines.specs.calls.Shapes.{row_change, insert_change, update_change, unset_change, delete_change, range_deleted, partition_deleted, static_set, static_removed, insert_of, update_of, unset_of, delete_of, delrange_of, delpart_of, static_change, unstatic_of, cell_change_of, deletion_of, change_of, write_of, open_shape, open_of, bare_of, begin_of, command_of_number, command_of_two_words, read_of, step_of, command_of_three_words, plain_of, shape_of}

-- what holds of the value, if there is one
abbrev pub If : {X : Type 0} → (X → Type 0) → Option X → Type 0
If P None = Unit {0}
If P (Some x) = P x

pub and_then : {X Y : Type 0} (P : Y → Type 0) (f : X → Option Y) (o : Option X) → ((x : X) → If P (f x)) → If P (option_and_then f o)
and_then P f None h = tt
and_then P f (Some x) h = h x

pub after : {X Y : Type 0} (P : Y → Type 0) (Q : X → Type 0) (f : X → Option Y) (o : Option X) → If Q o → ((x : X) → Q x → If P (f x)) → If P (option_and_then f o)
after P Q f None q h = tt
after P Q f (Some x) q h = h x q

pub made : {X Y : Type 0} (P : Y → Type 0) (Q : X → Type 0) (f : X → Y) (o : Option X) → If Q o → ((x : X) → Q x → P (f x)) → If P (option_map f o)
made P Q f None q h = tt
made P Q f (Some x) q h = h x q

pub mapped : {X Y : Type 0} (P : Y → Type 0) (f : X → Y) (o : Option X) → If (λ x. P (f x)) o → If P (option_map f o)
mapped P f None h = tt
mapped P f (Some x) h = h

pub always : {X : Type 0} (P : X → Type 0) (o : Option X) → ((x : X) → P x) → If P o
always P None h = tt
always P (Some x) h = h x

pub chosen : {X : Type 0} (P : X → Type 0) (b : Bool) (one other : Option X) → If P one → If P other → If P (if b then one else other)
chosen P true one other p q = p
chosen P false one other p q = q

pub either : {X : Type 0} (P : X → Type 0) (one other : Option X) → If P one → If P other → If P (option_or one other)
either P None other p q = q
either P (Some x) other p q = p

-- something is written of a row
abbrev pub Said : Change → Type 0
Said (OfRow ck marker tomb cells) = (is_some marker || (is_some tomb || has_any cells)) ≡ true
Said (OfStatic cells) = has_any cells ≡ true
Said (OfRange from to tomb) = Unit {0}
Said (OfPartition tomb) = Unit {0}

-- at least one cell is named
abbrev HasAny : List (List ℕ × Cell) → Type 0
HasAny cells = has_any cells ≡ true

row_said : (ck : List ℕ) (marker : Option ℤ) (tomb : Option Tomb) (cells : Option (List (List ℕ × Cell)))
    → If (λ (named : List (List ℕ × Cell)). (is_some marker || (is_some tomb || has_any named)) ≡ true) cells → If Said (row_change ck marker tomb cells)
unfolding row_change
row_said ck marker tomb cells h =
    and_then Said (λ pieces. option_map (λ named. OfRow pieces marker tomb named) cells) (pieces_of ck) (λ pieces. mapped Said (λ named. OfRow pieces marker tomb named) cells h)

some_each : (stamp : Stamp) (word : List ℕ) (words : List (List ℕ)) → If HasAny (each_cell_of stamp (word ∷ words))
some_each stamp word words =
    and_then HasAny (λ cell. option_map (λ cells. cell ∷ cells) (each_cell_of stamp words)) (cell_said stamp word)
    (λ cell. mapped HasAny (λ cells. cell ∷ cells) (each_cell_of stamp words) (always (λ cells. HasAny (cell ∷ cells)) (each_cell_of stamp words) (λ cells. refl)))

kept : (o : Option (List (List ℕ × Cell))) → If HasAny o → If HasAny (option_and_then (λ cells. if are_distinct cells then Some cells else None) o)
kept None h = tt
kept (Some cells) h = chosen HasAny (are_distinct cells) (Some cells) None h tt

some_said : (stamp : Stamp) (words : List (List ℕ)) → If HasAny (some_cells_of stamp words)
unfolding named_cells
some_said stamp [] = tt
some_said stamp (word ∷ words) = kept (each_cell_of stamp (word ∷ words)) (some_each stamp word words)

inserted_said : (ck stamp : List ℕ) (sets : List (List ℕ)) → If Said (insert_change ck stamp sets)
unfolding insert_change
inserted_said ck stamp sets =
    and_then Said (λ ts. row_change ck (Some ts) None (named_cells (Alive ts) sets)) (stamp_of stamp)
    (λ ts. row_said ck (Some ts) None (named_cells (Alive ts) sets) (always (λ named. true ≡ true) (named_cells (Alive ts) sets) (λ named. refl)))

updated_said : (ck stamp : List ℕ) (sets : List (List ℕ)) → If Said (update_change ck stamp sets)
unfolding update_change
updated_said ck stamp sets =
    and_then Said (λ ts. row_change ck None None (some_cells_of (Alive ts) sets)) (stamp_of stamp) (λ ts. row_said ck None None (some_cells_of (Alive ts) sets) (some_said (Alive ts) sets))

removed_said : (ck stamp time : List ℕ) (names : List (List ℕ)) → If Said (unset_change ck stamp time names)
unfolding unset_change
removed_said ck stamp time names =
    and_then Said (λ tomb. row_change ck None None (some_cells_of (Gone tomb) names)) (tomb_of stamp time) (λ tomb. row_said ck None None (some_cells_of (Gone tomb) names) (some_said (Gone tomb) names))

deleted_said : (ck stamp time : List ℕ) → If Said (delete_change ck stamp time)
unfolding delete_change
deleted_said ck stamp time = and_then Said (λ tomb. row_change ck None (Some tomb) (Some [])) (tomb_of stamp time) (λ tomb. row_said ck None (Some tomb) (Some []) refl)

range_said : (from to stamp time : List ℕ) → If Said (range_deleted from to stamp time)
unfolding range_deleted
range_said from to stamp time =
    and_then Said (λ f. option_and_then (λ t. option_map (λ tomb. OfRange f t tomb) (tomb_of stamp time)) (range_end to)) (range_start from)
    (λ f. and_then Said (λ t. option_map (λ tomb. OfRange f t tomb) (tomb_of stamp time)) (range_end to)
    (λ t. mapped Said (λ tomb. OfRange f t tomb) (tomb_of stamp time) (always (λ tomb. Unit {0}) (tomb_of stamp time) (λ tomb. tt))))

partition_said : (stamp time : List ℕ) → If Said (partition_deleted stamp time)
unfolding partition_deleted
partition_said stamp time = mapped Said (λ tomb. OfPartition tomb) (tomb_of stamp time) (always (λ tomb. Unit {0}) (tomb_of stamp time) (λ tomb. tt))

static_set_said : (stamp : List ℕ) (sets : List (List ℕ)) → If Said (static_set stamp sets)
unfolding static_set
static_set_said stamp sets =
    and_then Said (λ ts. option_map (λ cells. OfStatic cells) (some_cells_of (Alive ts) sets)) (stamp_of stamp)
    (λ ts. mapped Said (λ cells. OfStatic cells) (some_cells_of (Alive ts) sets) (some_said (Alive ts) sets))

static_removed_said : (stamp time : List ℕ) (names : List (List ℕ)) → If Said (static_removed stamp time names)
unfolding static_removed
static_removed_said stamp time names =
    and_then Said (λ tomb. option_map (λ cells. OfStatic cells) (some_cells_of (Gone tomb) names)) (tomb_of stamp time)
    (λ tomb. mapped Said (λ cells. OfStatic cells) (some_cells_of (Gone tomb) names) (some_said (Gone tomb) names))

insert_said : (words : List (List ℕ)) → If Said (insert_of words)
insert_said [] = tt
insert_said (ck ∷ []) = tt
insert_said (ck ∷ stamp ∷ sets) = inserted_said ck stamp sets

update_said : (words : List (List ℕ)) → If Said (update_of words)
update_said [] = tt
update_said (ck ∷ []) = tt
update_said (ck ∷ stamp ∷ sets) = updated_said ck stamp sets

unset_said : (words : List (List ℕ)) → If Said (unset_of words)
unset_said [] = tt
unset_said (ck ∷ []) = tt
unset_said (ck ∷ stamp ∷ []) = tt
unset_said (ck ∷ stamp ∷ time ∷ names) = removed_said ck stamp time names

delete_said : (words : List (List ℕ)) → If Said (delete_of words)
delete_said [] = tt
delete_said (ck ∷ []) = tt
delete_said (ck ∷ stamp ∷ []) = tt
delete_said (ck ∷ stamp ∷ time ∷ []) = deleted_said ck stamp time
delete_said (ck ∷ stamp ∷ time ∷ more ∷ words) = tt

delrange_said : (words : List (List ℕ)) → If Said (delrange_of words)
delrange_said [] = tt
delrange_said (from ∷ []) = tt
delrange_said (from ∷ to ∷ []) = tt
delrange_said (from ∷ to ∷ stamp ∷ []) = tt
delrange_said (from ∷ to ∷ stamp ∷ time ∷ []) = range_said from to stamp time
delrange_said (from ∷ to ∷ stamp ∷ time ∷ more ∷ words) = tt

delpart_said : (words : List (List ℕ)) → If Said (delpart_of words)
delpart_said [] = tt
delpart_said (stamp ∷ []) = tt
delpart_said (stamp ∷ time ∷ []) = partition_said stamp time
delpart_said (stamp ∷ time ∷ more ∷ words) = tt

static_said : (words : List (List ℕ)) → If Said (static_change words)
static_said [] = tt
static_said (stamp ∷ sets) = static_set_said stamp sets

unstatic_said : (words : List (List ℕ)) → If Said (unstatic_of words)
unstatic_said [] = tt
unstatic_said (stamp ∷ []) = tt
unstatic_said (stamp ∷ time ∷ names) = static_removed_said stamp time names

cell_change_said : (verb : List ℕ) (words : List (List ℕ)) → If Said (cell_change_of verb words)
unfolding cell_change_of
cell_change_said verb words =
    chosen Said (is_word verb (codes "insert")) (insert_of words) _ (insert_said words)
    (chosen Said (is_word verb (codes "update")) (update_of words) _ (update_said words)
    (chosen Said (is_word verb (codes "unset")) (unset_of words) _ (unset_said words)
    (chosen Said (is_word verb (codes "static")) (static_change words) _ (static_said words)
    (chosen Said (is_word verb (codes "unstatic")) (unstatic_of words) None (unstatic_said words) tt))))

deletion_said : (verb : List ℕ) (words : List (List ℕ)) → If Said (deletion_of verb words)
unfolding deletion_of
deletion_said verb words =
    chosen Said (is_word verb (codes "delete")) (delete_of words) _ (delete_said words)
    (chosen Said (is_word verb (codes "delrange")) (delrange_of words) _ (delrange_said words)
    (chosen Said (is_word verb (codes "delpart")) (delpart_of words) None (delpart_said words) tt))

-- a plain command is neither a write nor an opening
abbrev pub SaidShape : Shape → Type 0
SaidShape (Plain command) = (schema : SchemaValue) → CommandFits schema command
SaidShape (Open id key from to) = Unit {0}
SaidShape (Written key change) = Said change

-- a command that fits every schema
abbrev Harmless : Command → Type 0
Harmless command = (schema : SchemaValue) → CommandFits schema command

bare_said : (verb : List ℕ) → If Harmless (bare_of verb)
unfolding bare_of
bare_said verb =
    chosen Harmless (is_word verb (codes "flush")) (Some Flush) _ (λ schema. tt) (chosen Harmless (is_word verb (codes "stats")) (Some Stats) None (λ schema. tt) tt)

told_said : (verb : List ℕ) (n : ℕ) → If Harmless (command_of_number verb n)
unfolding command_of_number
told_said verb n =
    chosen Harmless (is_word verb (codes "close")) (Some (Close n)) _ (λ schema. tt)
    (chosen Harmless (is_word verb (codes "evict")) (Some (Evict n)) _ (λ schema. tt)
    (chosen Harmless (is_word verb (codes "compact")) (Some (Compact n)) _ (λ schema. tt)
    (chosen Harmless (is_word verb (codes "clean")) (Some (Clean n)) None (λ schema. tt) tt)))

numbered_said : (verb word : List ℕ) → If Harmless (command_of_two_words verb word)
unfolding command_of_two_words
numbered_said verb word =
    chosen Harmless (is_word verb (codes "flush")) (begin_of word) _ (chosen Harmless (is_word word (codes "begin")) (Some FlushBegin) None (λ schema. tt) tt)
    (and_then Harmless (command_of_number verb) (count_of 4294967295 word) (told_said verb))

read_said : (id count : List ℕ) → If Harmless (read_of id count)
unfolding read_of
read_said id count =
    and_then Harmless (λ i. option_map (λ n. Read i n) (count_of 4294967295 count)) (count_of 4294967295 id)
    (λ i. mapped Harmless (λ n. Read i n) (count_of 4294967295 count) (always (λ n. Harmless (Read i n)) (count_of 4294967295 count) (λ n schema. tt)))

step_said : (word count : List ℕ) → If Harmless (step_of word count)
unfolding step_of
step_said word count =
    chosen Harmless (is_word word (codes "step")) _ None (mapped Harmless (λ n. FlushStep n) (count_of 4294967295 count) (always (λ n. Harmless (FlushStep n)) (count_of 4294967295 count) (λ n schema. tt))) tt

counted_said : (verb one other : List ℕ) → If Harmless (command_of_three_words verb one other)
unfolding command_of_three_words
counted_said verb one other =
    chosen Harmless (is_word verb (codes "read")) (read_of one other) _ (read_said one other)
    (chosen Harmless (is_word verb (codes "flush")) (step_of one other) None (step_said one other) tt)

plain_said : (verb : List ℕ) (words : List (List ℕ)) → If Harmless (plain_of verb words)
plain_said verb [] = bare_said verb
plain_said verb (one ∷ []) = numbered_said verb one
plain_said verb (one ∷ other ∷ []) = counted_said verb one other
plain_said verb (one ∷ other ∷ more ∷ words) = tt

opened_said : (id key : List ℕ) (from to : Option Bound) → If SaidShape (open_shape id key from to)
unfolding open_shape
opened_said id key from to =
    and_then SaidShape (λ i. option_and_then (λ k. option_and_then (λ f. option_map (λ t. Open i k f t) to) from) (key_of key)) (count_of 4294967295 id)
    (λ i. and_then SaidShape (λ k. option_and_then (λ f. option_map (λ t. Open i k f t) to) from) (key_of key)
    (λ k. and_then SaidShape (λ f. option_map (λ t. Open i k f t) to) from (λ f. mapped SaidShape (λ t. Open i k f t) to (always (λ t. Unit {0}) to (λ t. tt)))))

open_said : (words : List (List ℕ)) → If SaidShape (open_of words)
open_said [] = tt
open_said (id ∷ []) = tt
open_said (id ∷ key ∷ []) = opened_said id key (Some no_bound) (Some no_bound)
open_said (id ∷ key ∷ from ∷ []) = tt
open_said (id ∷ key ∷ from ∷ to ∷ []) = opened_said id key (range_start from) (range_end to)
open_said (id ∷ key ∷ from ∷ to ∷ more ∷ words) = tt

write_said : (verb : List ℕ) (words : List (List ℕ)) → If SaidShape (write_of verb words)
write_said verb [] = tt
write_said verb (key ∷ words) =
    and_then SaidShape (λ k. option_map (λ change. Written k change) (change_of verb words)) (key_of key)
    (λ k. mapped SaidShape (λ change. Written k change) (change_of verb words) (either Said (cell_change_of verb words) (deletion_of verb words) (cell_change_said verb words) (deletion_said verb words)))

-- what each line says
pub shape_said : (words : List (List ℕ)) → If SaidShape (shape_of words)
shape_said [] = tt
shape_said (verb ∷ words) =
    either SaidShape (option_map (λ command. Plain command) (plain_of verb words)) (if is_word verb (codes "open") then open_of words else write_of verb words)
    (mapped SaidShape (λ command. Plain command) (plain_of verb words) (plain_said verb words))
    (chosen SaidShape (is_word verb (codes "open")) (open_of words) (write_of verb words) (open_said words) (write_said verb words))
