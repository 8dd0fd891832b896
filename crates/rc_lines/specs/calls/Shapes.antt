-- What a line says before a schema is known, by cases over its words.
use Rattle.std.specs.Prelude.{ℕ, ℤ, List, [], ◌∷◌, codes, Option, Some, None, if◌then◌else◌, option_and_then}
use Rattle.std.specs.Option.{option_map, option_or}
use Rattle.rc_cell.specs.declared.writes.Cell.{Cell}
use Rattle.rc_cell.specs.declared.writes.Tomb.{Tomb}
use Rattle.rc_spelling.specs.Numbers.{count_of}
use Rattle.rc_lines.specs.declared.commands.Command.{Command}
use Rattle.rc_lines.specs.declared.commands.Command.TheVariants.{Read, Close, Flush, FlushBegin, FlushStep, Evict, Compact, Clean, Stats}
use Rattle.rc_lines.specs.declared.shapes.Bound.{Bound}
use Rattle.rc_lines.specs.declared.shapes.Change.{Change}
use Rattle.rc_lines.specs.declared.shapes.Change.TheVariants.{OfRow, OfStatic, OfRange, OfPartition}
use Rattle.rc_lines.specs.declared.shapes.Shape.{Shape}
use Rattle.rc_lines.specs.declared.shapes.Shape.TheVariants.{Plain, Open, Written}
use Rattle.rc_lines.specs.declared.shapes.Stamp.TheVariants.{Alive, Gone}
use Rattle.rc_lines.specs.Parts.{pieces_of, stamp_of, key_of}
use Rattle.rc_lines.specs.calls.ShapeParts.{tomb_of, named_cells, some_cells_of, no_bound, range_start, range_end}
use Rattle.rc_spelling.specs.Words.{is_word}

-- what is written to the row of CK
unfoldable pub row_change : List ℕ → Option ℤ → Option Tomb → Option (List (List ℕ × Cell)) → Option Change
row_change ck marker tomb cells = option_and_then (λ pieces. option_map (λ named. OfRow pieces marker tomb named) cells) (pieces_of ck)

-- `insert KEY CK ts=TS`, then any number of `NAME=VALUE`: a marker and live cells
unfoldable pub insert_change : List ℕ → List ℕ → List (List ℕ) → Option Change
insert_change ck stamp sets = option_and_then (λ ts. row_change ck (Some ts) None (named_cells (Alive ts) sets)) (stamp_of stamp)

-- `update KEY CK ts=TS`, then at least one `NAME=VALUE`: live cells
unfoldable pub update_change : List ℕ → List ℕ → List (List ℕ) → Option Change
update_change ck stamp sets = option_and_then (λ ts. row_change ck None None (some_cells_of (Alive ts) sets)) (stamp_of stamp)

-- `unset KEY CK ts=TS dt=DT`, then at least one NAME: dead cells
unfoldable pub unset_change : List ℕ → List ℕ → List ℕ → List (List ℕ) → Option Change
unset_change ck stamp time names = option_and_then (λ tomb. row_change ck None None (some_cells_of (Gone tomb) names)) (tomb_of stamp time)

-- `delete KEY CK ts=TS dt=DT`: a row tombstone
unfoldable pub delete_change : List ℕ → List ℕ → List ℕ → Option Change
delete_change ck stamp time = option_and_then (λ tomb. row_change ck None (Some tomb) (Some [])) (tomb_of stamp time)

-- `delrange KEY from=FROM to=TO ts=TS dt=DT`: a range tombstone
unfoldable pub range_deleted : List ℕ → List ℕ → List ℕ → List ℕ → Option Change
range_deleted from to stamp time =
    option_and_then (λ f. option_and_then (λ t. option_map (λ tomb. OfRange f t tomb) (tomb_of stamp time)) (range_end to)) (range_start from)

-- `delpart KEY ts=TS dt=DT`: a partition tombstone
unfoldable pub partition_deleted : List ℕ → List ℕ → Option Change
partition_deleted stamp time = option_map (λ tomb. OfPartition tomb) (tomb_of stamp time)

-- `static KEY ts=TS`, then at least one `NAME=VALUE`: live static cells
unfoldable pub static_set : List ℕ → List (List ℕ) → Option Change
static_set stamp sets = option_and_then (λ ts. option_map (λ cells. OfStatic cells) (some_cells_of (Alive ts) sets)) (stamp_of stamp)

-- `unstatic KEY ts=TS dt=DT`, then at least one NAME: dead static cells
unfoldable pub static_removed : List ℕ → List ℕ → List (List ℕ) → Option Change
static_removed stamp time names = option_and_then (λ tomb. option_map (λ cells. OfStatic cells) (some_cells_of (Gone tomb) names)) (tomb_of stamp time)

-- `insert`, by the words behind KEY
abbrev pub insert_of : List (List ℕ) → Option Change
insert_of [] = None
insert_of (ck ∷ []) = None
insert_of (ck ∷ stamp ∷ sets) = insert_change ck stamp sets

-- `update`, by the words behind KEY
abbrev pub update_of : List (List ℕ) → Option Change
update_of [] = None
update_of (ck ∷ []) = None
update_of (ck ∷ stamp ∷ sets) = update_change ck stamp sets

-- `unset`, by the words behind KEY
abbrev pub unset_of : List (List ℕ) → Option Change
unset_of [] = None
unset_of (ck ∷ []) = None
unset_of (ck ∷ stamp ∷ []) = None
unset_of (ck ∷ stamp ∷ time ∷ names) = unset_change ck stamp time names

-- `delete`, by the words behind KEY
abbrev pub delete_of : List (List ℕ) → Option Change
delete_of [] = None
delete_of (ck ∷ []) = None
delete_of (ck ∷ stamp ∷ []) = None
delete_of (ck ∷ stamp ∷ time ∷ []) = delete_change ck stamp time
delete_of (ck ∷ stamp ∷ time ∷ more ∷ words) = None

-- `delrange`, by the words behind KEY
abbrev pub delrange_of : List (List ℕ) → Option Change
delrange_of [] = None
delrange_of (from ∷ []) = None
delrange_of (from ∷ to ∷ []) = None
delrange_of (from ∷ to ∷ stamp ∷ []) = None
delrange_of (from ∷ to ∷ stamp ∷ time ∷ []) = range_deleted from to stamp time
delrange_of (from ∷ to ∷ stamp ∷ time ∷ more ∷ words) = None

-- `delpart`, by the words behind KEY
abbrev pub delpart_of : List (List ℕ) → Option Change
delpart_of [] = None
delpart_of (stamp ∷ []) = None
delpart_of (stamp ∷ time ∷ []) = partition_deleted stamp time
delpart_of (stamp ∷ time ∷ more ∷ words) = None

-- `static`, by the words behind KEY
abbrev pub static_change : List (List ℕ) → Option Change
static_change [] = None
static_change (stamp ∷ sets) = static_set stamp sets

-- `unstatic`, by the words behind KEY
abbrev pub unstatic_of : List (List ℕ) → Option Change
unstatic_of [] = None
unstatic_of (stamp ∷ []) = None
unstatic_of (stamp ∷ time ∷ names) = static_removed stamp time names

-- what a line writes by cells, by its first word and those behind KEY
unfoldable pub cell_change_of : List ℕ → List (List ℕ) → Option Change
cell_change_of verb words =
    if is_word verb (codes "insert") then insert_of words
    else if is_word verb (codes "update") then update_of words
    else if is_word verb (codes "unset") then unset_of words
    else if is_word verb (codes "static") then static_change words
    else if is_word verb (codes "unstatic") then unstatic_of words
    else None

-- what a line writes by a tombstone, by its first word and those behind KEY
unfoldable pub deletion_of : List ℕ → List (List ℕ) → Option Change
deletion_of verb words =
    if is_word verb (codes "delete") then delete_of words
    else if is_word verb (codes "delrange") then delrange_of words
    else if is_word verb (codes "delpart") then delpart_of words
    else None

-- what a line writes, by its first word and those behind KEY
abbrev pub change_of : List ℕ → List (List ℕ) → Option Change
change_of verb words = option_or (cell_change_of verb words) (deletion_of verb words)

-- a write: its first word, KEY, and what is written
abbrev pub write_of : List ℕ → List (List ℕ) → Option Shape
write_of verb [] = None
write_of verb (key ∷ words) = option_and_then (λ k. option_map (λ change. Written k change) (change_of verb words)) (key_of key)

-- `open ID KEY` between two bounds
unfoldable pub open_shape : List ℕ → List ℕ → Option Bound → Option Bound → Option Shape
open_shape id key from to =
    option_and_then (λ i. option_and_then (λ k. option_and_then (λ f. option_map (λ t. Open i k f t) to) from) (key_of key)) (count_of 4294967295 id)

-- `open ID KEY`, or `open ID KEY from=FROM to=TO`
abbrev pub open_of : List (List ℕ) → Option Shape
open_of [] = None
open_of (id ∷ []) = None
open_of (id ∷ key ∷ []) = open_shape id key (Some no_bound) (Some no_bound)
open_of (id ∷ key ∷ from ∷ []) = None
open_of (id ∷ key ∷ from ∷ to ∷ []) = open_shape id key (range_start from) (range_end to)
open_of (id ∷ key ∷ from ∷ to ∷ more ∷ words) = None

-- a command of one word
unfoldable pub bare_of : List ℕ → Option Command
bare_of verb =
    if is_word verb (codes "flush") then Some Flush
    else if is_word verb (codes "stats") then Some Stats
    else None

-- a command of a word and a number
unfoldable pub command_of_number : List ℕ → ℕ → Option Command
command_of_number verb n =
    if is_word verb (codes "close") then Some (Close n)
    else if is_word verb (codes "evict") then Some (Evict n)
    else if is_word verb (codes "compact") then Some (Compact n)
    else if is_word verb (codes "clean") then Some (Clean n)
    else None

-- `flush begin`, by the word behind the first
abbrev pub begin_of : List ℕ → Option Command
begin_of word = if is_word word (codes "begin") then Some FlushBegin else None

-- a command of two words: `flush begin`, or with a number from 1 to 4294967295
unfoldable pub command_of_two_words : List ℕ → List ℕ → Option Command
command_of_two_words verb word =
    if is_word verb (codes "flush") then begin_of word
    else option_and_then (command_of_number verb) (count_of 4294967295 word)

-- `read ID COUNT`
unfoldable pub read_of : List ℕ → List ℕ → Option Command
read_of id count = option_and_then (λ i. option_map (λ n. Read i n) (count_of 4294967295 count)) (count_of 4294967295 id)

-- `flush step COUNT`, by the words behind the first
unfoldable pub step_of : List ℕ → List ℕ → Option Command
step_of word count = if is_word word (codes "step") then option_map (λ n. FlushStep n) (count_of 4294967295 count) else None

-- a command of three words
unfoldable pub command_of_three_words : List ℕ → List ℕ → List ℕ → Option Command
command_of_three_words verb one other =
    if is_word verb (codes "read") then read_of one other
    else if is_word verb (codes "flush") then step_of one other
    else None

-- a command that is the same under each schema
abbrev pub plain_of : List ℕ → List (List ℕ) → Option Command
plain_of verb [] = bare_of verb
plain_of verb (one ∷ []) = command_of_two_words verb one
plain_of verb (one ∷ other ∷ []) = command_of_three_words verb one other
plain_of verb (one ∷ other ∷ more ∷ words) = None

-- what a line says, by its words
abbrev pub shape_of : List (List ℕ) → Option Shape
shape_of [] = None
shape_of (verb ∷ words) =
    option_or (option_map (λ command. Plain command) (plain_of verb words)) (if is_word verb (codes "open") then open_of words else write_of verb words)
