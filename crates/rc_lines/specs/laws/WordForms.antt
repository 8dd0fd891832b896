-- What the words of a line say by their form they say by their shape.
use Rattle.std.proofs.Common.{◌≡◌, ℕ, ℤ, ◌+◌, ◌==◌, Bool, true, false, ◌&&◌, nat_le, List, [], ◌∷◌, length, take, drop, refl, sym, subst, ap, ◌∙◌, codes, arith}
use Rattle.std.specs.Prelude.{if◌then◌else◌, option_and_then, Ok}
use Rattle.std.specs.declared.option.Option.{Option}
use Rattle.std.specs.declared.option.Option.TheVariants.{Some, None}
use Rattle.std.specs.Cmp.Lexicographic.{same_text}
use Rattle.std.specs.List.{AllByRecursion, cons_option, filter_map, position, slice_get}
use Rattle.std.specs.Option.{option_map, option_or}
use Rattle.std.proofs.lemmas.Bool.Decides.{nat_tests}
use Rattle.rc_cell.specs.declared.writes.Cell.{Cell}
use Rattle.rc_cell.specs.declared.writes.Cell.TheVariants.{Live}
use Rattle.rc_cell.specs.declared.writes.Tomb.{Tomb}
use Rattle.rc_spelling.specs.Numbers.{count_of}
use Rattle.rc_spelling.specs.Words.{is_word, each_of}
use Rattle.rc_spelling.specs.Spelling.{bytes_spelled}
use Rattle.rc_lines.specs.declared.commands.Command.{Command}
use Rattle.rc_lines.specs.declared.commands.Command.TheVariants.{OpenRead, Read, Close, FlushBegin, FlushStep, Evict, Compact, Clean}
use Rattle.rc_lines.specs.declared.shapes.Bound.{Bound}
use Rattle.rc_lines.specs.declared.shapes.Change.{Change}
use Rattle.rc_lines.specs.declared.shapes.Change.TheVariants.{OfRow, OfStatic, OfRange, OfPartition}
use Rattle.rc_lines.specs.declared.shapes.Shape.{Shape}
use Rattle.rc_lines.specs.declared.shapes.Shape.TheVariants.{Plain, Open, Written}
use Rattle.rc_lines.specs.declared.shapes.Stamp.{Stamp}
use Rattle.rc_lines.specs.declared.shapes.Stamp.TheVariants.{Alive, Gone}
use Rattle.rc_lines.specs.Forms.{Form, columns_to_end, forms}
use Rattle.rc_lines.specs.Parts.{without_front, without_back, stamp_of, time_of, key_of, pieces_of, named_cell, cell_set, cell_unset, limit_of, from_limit, to_limit}
use Rattle.rc_lines.specs.UnderSchema.{Saying, row_written, statics_written, range_written, partition_written, on_slice}
use Rattle.rc_lines.specs.calls.ShapeParts.{are_distinct, tomb_of, live_of, split_set, set_of, cell_said, each_cell_of, named_cells, some_cells_of, no_bound, bound_at, marked_bound, from_of, to_of, range_start, range_end}
use Rattle.rc_lines.specs.calls.Shapes.{row_change, insert_change, update_change, unset_change, delete_change, range_deleted, partition_deleted, static_set, static_removed, cell_change_of, deletion_of, change_of, write_of, open_shape, open_of, bare_of, command_of_number, command_of_two_words, read_of, step_of, command_of_three_words, plain_of, shape_of}

-- ---- what a shape says

-- a bound as a limit of keys
abbrev pub limit : Bound → List (List ℕ) × Bool
limit bound = (bound.pieces, bound.inclusive)

-- what is said by what is written to the partition of a key
abbrev pub change_saying : List ℕ → Change → Saying
change_saying key (OfRow ck marker tomb cells) = row_written key ck marker tomb cells
change_saying key (OfStatic cells) = statics_written key cells
change_saying key (OfRange from to tomb) = range_written key (limit from) (limit to) tomb
change_saying key (OfPartition tomb) = partition_written key tomb

-- what a shape says
abbrev pub shape_saying : Shape → Saying
shape_saying (Plain command) = λ schema. Ok command
shape_saying (Open id key from to) = on_slice key (limit from) (limit to) (OpenRead id key)
shape_saying (Written key change) = change_saying key change

-- what the first of some forms says that words have
abbrev first_form : List Form → List (List ℕ) → Option Saying
first_form [] words = None
first_form (form ∷ others) words = option_or (form words) (first_form others words)

first_of_two : (o : Option Saying) (others : List Saying) → slice_get (cons_option o others) 0 ≡ option_or o (slice_get others 0)
first_of_two None others = refl
first_of_two (Some saying) others = refl

first_said : (forms : List Form) (words : List (List ℕ)) → slice_get (filter_map (λ form. form words) forms) 0 ≡ first_form forms words
first_said [] words = refl
first_said (form ∷ others) words = first_of_two (form words) (filter_map (λ form. form words) others) ∙ ap (option_or (form words)) (first_said others words)

-- ---- options

or_none : {X : Type 0} (o : Option X) → option_or o None ≡ o
or_none None = refl
or_none (Some x) = refl

none_after : {X Y : Type 0} (f : X → Option Y) (o : Option X) → ((x : X) → f x ≡ None) → option_and_then f o ≡ None
none_after f None h = refl
none_after f (Some x) h = h x

-- ---- bounds

pieces_same : (inclusive : Bool) (o : Option (List (List ℕ))) → option_map (λ pieces. (pieces, inclusive)) o ≡ option_map limit (option_map (λ pieces. record { pieces = pieces; inclusive = inclusive }) o)
pieces_same inclusive None = refl
pieces_same inclusive (Some pieces) = refl

marked_same : (none : Bool) (one other : Option (List ℕ)) →
    (if none then Some ([], true)
    else option_and_then (λ (ck : List ℕ × Bool). option_map (λ pieces. (pieces, ck.1)) (pieces_of ck.0)) (option_or (option_map (λ ck. (ck, true)) one) (option_map (λ ck. (ck, false)) other)))
    ≡ option_map limit (if none then Some no_bound else marked_bound one other)
unfolding bound_at
marked_same true one other = refl
marked_same false (Some ck) other = pieces_same true (pieces_of ck)
marked_same false None (Some ck) = pieces_same false (pieces_of ck)
marked_same false None None = refl

from_behind : (o : Option (List ℕ)) → option_and_then (λ from. limit_of from (without_front (codes "[") from) (without_front (codes "(") from)) o ≡ option_map limit (option_and_then from_of o)
unfolding from_of
from_behind None = refl
from_behind (Some word) = marked_same (is_word word (codes "-")) (without_front (codes "[") word) (without_front (codes "(") word)

from_same : (word : List ℕ) → from_limit word ≡ option_map limit (range_start word)
unfolding from_limit range_start
from_same word = from_behind (without_front (codes "from=") word)

to_behind : (o : Option (List ℕ)) → option_and_then (λ to. limit_of to (without_back (codes "]") to) (without_back (codes ")") to)) o ≡ option_map limit (option_and_then to_of o)
unfolding to_of
to_behind None = refl
to_behind (Some word) = marked_same (is_word word (codes "-")) (without_back (codes "]") word) (without_back (codes ")") word)

to_same : (word : List ℕ) → to_limit word ≡ option_map limit (range_end word)
unfolding to_limit range_end
to_same word = to_behind (without_front (codes "to=") word)

-- ---- cells

set_at : (ts : ℤ) (word : List ℕ) (o : Option ℕ) →
    option_and_then (λ at. named_cell (take at word) (option_map (λ value. Live ts value) (bytes_spelled (drop (at + 1) word)))) o
    ≡ option_and_then (λ (parts : List ℕ × List ℕ). named_cell parts.0 (live_of ts parts.1)) (option_map (λ at. (take at word, drop (at + 1) word)) o)
unfolding live_of
set_at ts word None = refl
set_at ts word (Some at) = refl

set_same : (ts : ℤ) (word : List ℕ) → cell_set ts word ≡ set_of ts word
unfolding cell_set set_of split_set
set_same ts word = set_at ts word (position (λ byte. byte == 61) word)

-- how a word of a column is read behind a stamp
abbrev reader : Stamp → List ℕ → Option (List ℕ × Cell)
reader (Alive ts) = cell_set ts
reader (Gone tomb) = cell_unset tomb

word_same : (stamp : Stamp) (word : List ℕ) → reader stamp word ≡ cell_said stamp word
word_same (Alive ts) word = set_same ts word
word_same (Gone tomb) word = refl

each_same : (stamp : Stamp) (words : List (List ℕ)) → each_of (reader stamp) words ≡ each_cell_of stamp words
each_same stamp [] = refl
each_same stamp (word ∷ words) = λ i. option_and_then (λ item. option_map (λ items. item ∷ items) (each_same stamp words i)) (word_same stamp word i)

-- cells of which enough are there and no name stands twice
abbrev chosen_cells : ℕ → Option (List (List ℕ × Cell)) → Option (List (List ℕ × Cell))
chosen_cells least o = option_and_then (λ cells. if nat_le least (length cells) && are_distinct cells then Some cells else None) o

said_of : (b : Bool) (saying : List (List ℕ × Cell) → Saying) (cells : List (List ℕ × Cell)) → (if b then Some (saying cells) else None) ≡ option_map saying (if b then Some cells else None)
said_of true saying cells = refl
said_of false saying cells = refl

said_after : (least : ℕ) (saying : List (List ℕ × Cell) → Saying) (o : Option (List (List ℕ × Cell))) →
    option_and_then (λ cells. if nat_le least (length cells) && are_distinct cells then Some (saying cells) else None) o ≡ option_map saying (chosen_cells least o)
said_after least saying None = refl
said_after least saying (Some cells) = said_of (nat_le least (length cells) && are_distinct cells) saying cells

enough : (least : ℕ) (cells : List (List ℕ × Cell)) → nat_le least (length cells) ≡ true → chosen_cells least (Some cells) ≡ (if are_distinct cells then Some cells else None)
enough least cells h = rw h refl

any_said : (stamp : Stamp) (o : Option (List (List ℕ × Cell))) → chosen_cells 0 o ≡ option_and_then (λ cells. if are_distinct cells then Some cells else None) o
any_said stamp None = refl
any_said stamp (Some cells) = enough 0 cells (grind (arith, nat_tests))

some_more : (cell : List ℕ × Cell) (o : Option (List (List ℕ × Cell))) →
    chosen_cells 1 (option_map (λ cells. cell ∷ cells) o) ≡ option_and_then (λ cells. if are_distinct cells then Some cells else None) (option_map (λ cells. cell ∷ cells) o)
some_more cell None = refl
some_more cell (Some cells) = enough 1 (cell ∷ cells) (grind (arith, nat_tests))

some_first : (o : Option (List ℕ × Cell)) (rest : Option (List (List ℕ × Cell))) →
    chosen_cells 1 (option_and_then (λ cell. option_map (λ cells. cell ∷ cells) rest) o)
    ≡ option_and_then (λ cells. if are_distinct cells then Some cells else None) (option_and_then (λ cell. option_map (λ cells. cell ∷ cells) rest) o)
some_first None rest = refl
some_first (Some cell) rest = some_more cell rest

-- any number of words
any_columns : (stamp : Stamp) (saying : List (List ℕ × Cell) → Saying) (words : List (List ℕ)) → columns_to_end 0 (reader stamp) saying words ≡ option_map saying (named_cells stamp words)
unfolding named_cells
any_columns stamp saying words =
    said_after 0 saying (each_of (reader stamp) words) ∙ ap (λ o. option_map saying (chosen_cells 0 o)) (each_same stamp words) ∙ ap (option_map saying) (any_said stamp (each_cell_of stamp words))

-- one word and more
some_columns : (stamp : Stamp) (saying : List (List ℕ × Cell) → Saying) (words : List (List ℕ)) → columns_to_end 1 (reader stamp) saying words ≡ option_map saying (some_cells_of stamp words)
unfolding named_cells
some_columns stamp saying [] = refl
some_columns stamp saying (word ∷ words) =
    said_after 1 saying (each_of (reader stamp) (word ∷ words)) ∙ ap (λ o. option_map saying (chosen_cells 1 o)) (each_same stamp (word ∷ words))
    ∙ ap (option_map saying) (some_first (cell_said stamp word) (each_cell_of stamp words))

-- ---- stamps

tomb_read : {X : Type 0} (more : Tomb → Option X) (stamp : Option ℤ) (time : Option ℕ) →
    option_and_then (λ ts. option_and_then (λ dt. more (record { ts = ts; dt = dt })) time) stamp ≡ option_and_then more (option_and_then (λ ts. option_map (λ dt. record { ts = ts; dt = dt }) time) stamp)
tomb_read more None time = refl
tomb_read more (Some ts) None = refl
tomb_read more (Some ts) (Some dt) = refl

-- ---- writes of rows and of the static row

row_last : (key : List ℕ) (pieces : List (List ℕ)) (marker : Option ℤ) (tomb : Option Tomb) (cells : Option (List (List ℕ × Cell))) →
    option_map (row_written key pieces marker tomb) cells ≡ option_map shape_saying (option_map (λ change. Written key change) (option_map (λ named. OfRow pieces marker tomb named) cells))
row_last key pieces marker tomb None = refl
row_last key pieces marker tomb (Some cells) = refl

row_read : {S : Type 0} (marker : S → Option ℤ) (tomb : S → Option Tomb) (cells : S → Option (List (List ℕ × Cell))) (key : Option (List ℕ)) (pieces : Option (List (List ℕ))) (stamp : Option S) →
    option_and_then (λ k. option_and_then (λ p. option_and_then (λ s. option_map (row_written k p (marker s) (tomb s)) (cells s)) stamp) pieces) key
    ≡ option_map shape_saying (option_and_then (λ k. option_map (λ change. Written k change)
    (option_and_then (λ s. option_and_then (λ p. option_map (λ named. OfRow p (marker s) (tomb s) named) (cells s)) pieces) stamp)) key)
row_read marker tomb cells None pieces stamp = refl
row_read marker tomb cells (Some k) None None = refl
row_read marker tomb cells (Some k) None (Some s) = refl
row_read marker tomb cells (Some k) (Some p) None = refl
row_read marker tomb cells (Some k) (Some p) (Some s) = row_last k p (marker s) (tomb s) (cells s)

statics_last : (key : List ℕ) (cells : Option (List (List ℕ × Cell))) →
    option_map (statics_written key) cells ≡ option_map shape_saying (option_map (λ change. Written key change) (option_map (λ named. OfStatic named) cells))
statics_last key None = refl
statics_last key (Some cells) = refl

statics_read : {S : Type 0} (cells : S → Option (List (List ℕ × Cell))) (key : Option (List ℕ)) (stamp : Option S) →
    option_and_then (λ k. option_and_then (λ s. option_map (statics_written k) (cells s)) stamp) key
    ≡ option_map shape_saying (option_and_then (λ k. option_map (λ change. Written k change) (option_and_then (λ s. option_map (λ named. OfStatic named) (cells s)) stamp)) key)
statics_read cells None stamp = refl
statics_read cells (Some k) None = refl
statics_read cells (Some k) (Some s) = statics_last k (cells s)

range_read : (key : Option (List ℕ)) (from to : Option Bound) (tomb : Option Tomb) →
    option_and_then (λ k. option_and_then (λ f. option_and_then (λ t. option_and_then (λ dead. Some (range_written k f t dead)) tomb) (option_map limit to)) (option_map limit from)) key
    ≡ option_map shape_saying (option_and_then (λ k. option_map (λ change. Written k change)
    (option_and_then (λ f. option_and_then (λ t. option_map (λ dead. OfRange f t dead) tomb) to) from)) key)
range_read None from to tomb = refl
range_read (Some k) None to tomb = refl
range_read (Some k) (Some f) None tomb = refl
range_read (Some k) (Some f) (Some t) None = refl
range_read (Some k) (Some f) (Some t) (Some dead) = refl

partition_read : (key : Option (List ℕ)) (tomb : Option Tomb) →
    option_and_then (λ k. option_and_then (λ dead. Some (partition_written k dead)) tomb) key
    ≡ option_map shape_saying (option_and_then (λ k. option_map (λ change. Written k change) (option_map (λ dead. OfPartition dead) tomb)) key)
partition_read None tomb = refl
partition_read (Some k) None = refl
partition_read (Some k) (Some dead) = refl

-- ---- words of no form

-- words that are of no form have no shape
neither : (said : Option Saying) (shape : Option Shape) → said ≡ None → shape ≡ None → said ≡ option_map shape_saying shape
neither said shape p q = p ∙ ap (option_map shape_saying) (sym q)

first_none : (said : Option Saying) → said ≡ None → option_or said None ≡ None
first_none said p = or_none said ∙ p

no_shape : (command : Option Command) (key : List ℕ) (change : Option Change) → command ≡ None → change ≡ None →
    option_or (option_map (λ command. Plain command) command) (option_and_then (λ k. option_map (λ change. Written k change) change) (key_of key)) ≡ None
no_shape command key change p q =
    (λ i. option_or (option_map (λ command. Plain command) (p i)) (option_and_then (λ k. option_map (λ change. Written k change) (q i)) (key_of key))) ∙ none_after (λ k. None) (key_of key) (λ k. refl)

-- ---- writes

-- what the words of a write say, as those of a form and by their shape
abbrev AreAlike : List ℕ → List (List ℕ) → Type 0
AreAlike verb rest = first_form forms (verb ∷ rest) ≡ option_map shape_saying (shape_of (verb ∷ rest))

-- a write of cells
by_cells : (key : List ℕ) (said : Option Saying) (change : Option Change) → said ≡ option_map shape_saying (option_and_then (λ k. option_map (λ change. Written k change) change) (key_of key))
    → option_or said None ≡ option_map shape_saying (option_and_then (λ k. option_map (λ change. Written k change) (option_or change None)) (key_of key))
by_cells key said change h = or_none said ∙ h ∙ ap (λ c. option_map shape_saying (option_and_then (λ k. option_map (λ change. Written k change) c) (key_of key))) (sym (or_none change))

insert_alike : (rest : List (List ℕ)) → AreAlike (codes "insert") rest
unfolding forms bare_of command_of_two_words command_of_number command_of_three_words cell_change_of deletion_of insert_change row_change
insert_alike [] = refl
insert_alike (key ∷ []) =
    neither _ _ (first_none _ (none_after _ (key_of key) (λ k. refl))) (no_shape (plain_of (codes "insert") (key ∷ [])) key (change_of (codes "insert") []) (none_after (command_of_number (codes "insert")) (count_of 4294967295 key) (λ n. refl)) refl)
insert_alike (key ∷ ck ∷ []) =
    neither _ _ (first_none _ (none_after _ (key_of key) (λ k. none_after _ (pieces_of ck) (λ p. refl)))) (no_shape (plain_of (codes "insert") (key ∷ ck ∷ [])) key (change_of (codes "insert") (ck ∷ [])) refl refl)
insert_alike (key ∷ ck ∷ stamp ∷ sets) =
    by_cells key _ (insert_change ck stamp sets)
    ((λ i. option_and_then (λ k. option_and_then (λ p. option_and_then (λ ts. any_columns (Alive ts) (row_written k p (Some ts) None) sets i) (stamp_of stamp)) (pieces_of ck)) (key_of key))
    ∙ row_read (λ ts. Some ts) (λ ts. None) (λ ts. named_cells (Alive ts) sets) (key_of key) (pieces_of ck) (stamp_of stamp))

update_alike : (rest : List (List ℕ)) → AreAlike (codes "update") rest
unfolding forms bare_of command_of_two_words command_of_number command_of_three_words cell_change_of deletion_of update_change row_change
update_alike [] = refl
update_alike (key ∷ []) =
    neither _ _ (first_none _ (none_after _ (key_of key) (λ k. refl))) (no_shape (plain_of (codes "update") (key ∷ [])) key (change_of (codes "update") []) (none_after (command_of_number (codes "update")) (count_of 4294967295 key) (λ n. refl)) refl)
update_alike (key ∷ ck ∷ []) =
    neither _ _ (first_none _ (none_after _ (key_of key) (λ k. none_after _ (pieces_of ck) (λ p. refl)))) (no_shape (plain_of (codes "update") (key ∷ ck ∷ [])) key (change_of (codes "update") (ck ∷ [])) refl refl)
update_alike (key ∷ ck ∷ stamp ∷ sets) =
    by_cells key _ (update_change ck stamp sets)
    ((λ i. option_and_then (λ k. option_and_then (λ p. option_and_then (λ ts. some_columns (Alive ts) (row_written k p None None) sets i) (stamp_of stamp)) (pieces_of ck)) (key_of key))
    ∙ row_read (λ ts. None) (λ ts. None) (λ ts. some_cells_of (Alive ts) sets) (key_of key) (pieces_of ck) (stamp_of stamp))

unset_alike : (rest : List (List ℕ)) → AreAlike (codes "unset") rest
unfolding forms bare_of command_of_two_words command_of_number command_of_three_words cell_change_of deletion_of unset_change row_change tomb_of
unset_alike [] = refl
unset_alike (key ∷ []) =
    neither _ _ (first_none _ (none_after _ (key_of key) (λ k. refl))) (no_shape (plain_of (codes "unset") (key ∷ [])) key (change_of (codes "unset") []) (none_after (command_of_number (codes "unset")) (count_of 4294967295 key) (λ n. refl)) refl)
unset_alike (key ∷ ck ∷ []) =
    neither _ _ (first_none _ (none_after _ (key_of key) (λ k. none_after _ (pieces_of ck) (λ p. refl)))) (no_shape (plain_of (codes "unset") (key ∷ ck ∷ [])) key (change_of (codes "unset") (ck ∷ [])) refl refl)
unset_alike (key ∷ ck ∷ stamp ∷ []) =
    neither _ _ (first_none _ (none_after _ (key_of key) (λ k. none_after _ (pieces_of ck) (λ p. none_after _ (stamp_of stamp) (λ ts. refl)))))
    (no_shape (plain_of (codes "unset") (key ∷ ck ∷ stamp ∷ [])) key (change_of (codes "unset") (ck ∷ stamp ∷ [])) refl refl)
unset_alike (key ∷ ck ∷ stamp ∷ time ∷ names) =
    by_cells key _ (unset_change ck stamp time names)
    ((λ i. option_and_then (λ k. option_and_then (λ p. tomb_read (λ dead. columns_to_end 1 (cell_unset dead) (row_written k p None None) names) (stamp_of stamp) (time_of time) i) (pieces_of ck)) (key_of key))
    ∙ (λ i. option_and_then (λ k. option_and_then (λ p. option_and_then (λ dead. some_columns (Gone dead) (row_written k p None None) names i) (tomb_of stamp time)) (pieces_of ck)) (key_of key))
    ∙ row_read (λ dead. None) (λ dead. None) (λ dead. some_cells_of (Gone dead) names) (key_of key) (pieces_of ck) (tomb_of stamp time))

delete_alike : (rest : List (List ℕ)) → AreAlike (codes "delete") rest
unfolding forms bare_of command_of_two_words command_of_number command_of_three_words cell_change_of deletion_of delete_change row_change tomb_of
delete_alike [] = refl
delete_alike (key ∷ []) =
    neither _ _ (first_none _ (none_after _ (key_of key) (λ k. refl))) (no_shape (plain_of (codes "delete") (key ∷ [])) key (change_of (codes "delete") []) (none_after (command_of_number (codes "delete")) (count_of 4294967295 key) (λ n. refl)) refl)
delete_alike (key ∷ ck ∷ []) =
    neither _ _ (first_none _ (none_after _ (key_of key) (λ k. none_after _ (pieces_of ck) (λ p. refl)))) (no_shape (plain_of (codes "delete") (key ∷ ck ∷ [])) key (change_of (codes "delete") (ck ∷ [])) refl refl)
delete_alike (key ∷ ck ∷ stamp ∷ []) =
    neither _ _ (first_none _ (none_after _ (key_of key) (λ k. none_after _ (pieces_of ck) (λ p. none_after _ (stamp_of stamp) (λ ts. refl)))))
    (no_shape (plain_of (codes "delete") (key ∷ ck ∷ stamp ∷ [])) key (change_of (codes "delete") (ck ∷ stamp ∷ [])) refl refl)
delete_alike (key ∷ ck ∷ stamp ∷ time ∷ []) =
    or_none _
    ∙ (λ i. option_and_then (λ k. option_and_then (λ p. tomb_read (λ dead. Some (row_written k p None (Some dead) [])) (stamp_of stamp) (time_of time) i) (pieces_of ck)) (key_of key))
    ∙ row_read (λ dead. None) (λ dead. Some dead) (λ dead. Some []) (key_of key) (pieces_of ck) (tomb_of stamp time)
delete_alike (key ∷ ck ∷ stamp ∷ time ∷ more ∷ words) =
    neither _ _ (first_none _ (none_after _ (key_of key) (λ k. none_after _ (pieces_of ck) (λ p. none_after _ (stamp_of stamp) (λ ts. none_after _ (time_of time) (λ dt. refl))))))
    (no_shape (plain_of (codes "delete") (key ∷ ck ∷ stamp ∷ time ∷ more ∷ words)) key (change_of (codes "delete") (ck ∷ stamp ∷ time ∷ more ∷ words)) refl refl)

delrange_alike : (rest : List (List ℕ)) → AreAlike (codes "delrange") rest
unfolding forms bare_of command_of_two_words command_of_number command_of_three_words cell_change_of deletion_of range_deleted tomb_of
delrange_alike [] = refl
delrange_alike (key ∷ []) =
    neither _ _ (first_none _ (none_after _ (key_of key) (λ k. refl))) (no_shape (plain_of (codes "delrange") (key ∷ [])) key (change_of (codes "delrange") []) (none_after (command_of_number (codes "delrange")) (count_of 4294967295 key) (λ n. refl)) refl)
delrange_alike (key ∷ from ∷ []) =
    neither _ _ (first_none _ (none_after _ (key_of key) (λ k. none_after _ (from_limit from) (λ f. refl)))) (no_shape (plain_of (codes "delrange") (key ∷ from ∷ [])) key (change_of (codes "delrange") (from ∷ [])) refl refl)
delrange_alike (key ∷ from ∷ to ∷ []) =
    neither _ _ (first_none _ (none_after _ (key_of key) (λ k. none_after _ (from_limit from) (λ f. none_after _ (to_limit to) (λ t. refl)))))
    (no_shape (plain_of (codes "delrange") (key ∷ from ∷ to ∷ [])) key (change_of (codes "delrange") (from ∷ to ∷ [])) refl refl)
delrange_alike (key ∷ from ∷ to ∷ stamp ∷ []) =
    neither _ _ (first_none _ (none_after _ (key_of key) (λ k. none_after _ (from_limit from) (λ f. none_after _ (to_limit to) (λ t. none_after _ (stamp_of stamp) (λ ts. refl))))))
    (no_shape (plain_of (codes "delrange") (key ∷ from ∷ to ∷ stamp ∷ [])) key (change_of (codes "delrange") (from ∷ to ∷ stamp ∷ [])) refl refl)
delrange_alike (key ∷ from ∷ to ∷ stamp ∷ time ∷ []) =
    or_none _
    ∙ (λ i. option_and_then (λ k. option_and_then (λ f. option_and_then (λ t. tomb_read (λ dead. Some (range_written k f t dead)) (stamp_of stamp) (time_of time) i) (to_same to i)) (from_same from i)) (key_of key))
    ∙ range_read (key_of key) (range_start from) (range_end to) (tomb_of stamp time)
delrange_alike (key ∷ from ∷ to ∷ stamp ∷ time ∷ more ∷ words) =
    neither _ _ (first_none _ (none_after _ (key_of key) (λ k. none_after _ (from_limit from) (λ f. none_after _ (to_limit to) (λ t. none_after _ (stamp_of stamp) (λ ts. none_after _ (time_of time) (λ dt. refl)))))))
    (no_shape (plain_of (codes "delrange") (key ∷ from ∷ to ∷ stamp ∷ time ∷ more ∷ words)) key (change_of (codes "delrange") (from ∷ to ∷ stamp ∷ time ∷ more ∷ words)) refl refl)

delpart_alike : (rest : List (List ℕ)) → AreAlike (codes "delpart") rest
unfolding forms bare_of command_of_two_words command_of_number command_of_three_words cell_change_of deletion_of partition_deleted tomb_of
delpart_alike [] = refl
delpart_alike (key ∷ []) =
    neither _ _ (first_none _ (none_after _ (key_of key) (λ k. refl))) (no_shape (plain_of (codes "delpart") (key ∷ [])) key (change_of (codes "delpart") []) (none_after (command_of_number (codes "delpart")) (count_of 4294967295 key) (λ n. refl)) refl)
delpart_alike (key ∷ stamp ∷ []) =
    neither _ _ (first_none _ (none_after _ (key_of key) (λ k. none_after _ (stamp_of stamp) (λ ts. refl)))) (no_shape (plain_of (codes "delpart") (key ∷ stamp ∷ [])) key (change_of (codes "delpart") (stamp ∷ [])) refl refl)
delpart_alike (key ∷ stamp ∷ time ∷ []) =
    or_none _
    ∙ (λ i. option_and_then (λ k. tomb_read (λ dead. Some (partition_written k dead)) (stamp_of stamp) (time_of time) i) (key_of key))
    ∙ partition_read (key_of key) (tomb_of stamp time)
delpart_alike (key ∷ stamp ∷ time ∷ more ∷ words) =
    neither _ _ (first_none _ (none_after _ (key_of key) (λ k. none_after _ (stamp_of stamp) (λ ts. none_after _ (time_of time) (λ dt. refl)))))
    (no_shape (plain_of (codes "delpart") (key ∷ stamp ∷ time ∷ more ∷ words)) key (change_of (codes "delpart") (stamp ∷ time ∷ more ∷ words)) refl refl)

static_some : (key stamp : List ℕ) (sets : List (List ℕ)) →
    option_and_then (λ k. option_and_then (λ ts. columns_to_end 1 (cell_set ts) (statics_written k) sets) (stamp_of stamp)) (key_of key)
    ≡ option_map shape_saying (option_and_then (λ k. option_map (λ change. Written k change) (static_set stamp sets)) (key_of key))
unfolding static_set
static_some key stamp sets =
    (λ i. option_and_then (λ k. option_and_then (λ ts. some_columns (Alive ts) (statics_written k) sets i) (stamp_of stamp)) (key_of key))
    ∙ statics_read (λ ts. some_cells_of (Alive ts) sets) (key_of key) (stamp_of stamp)

static_alike : (rest : List (List ℕ)) → AreAlike (codes "static") rest
unfolding forms bare_of command_of_two_words command_of_number command_of_three_words cell_change_of deletion_of
static_alike [] = refl
static_alike (key ∷ []) =
    neither _ _ (first_none _ (none_after _ (key_of key) (λ k. refl))) (no_shape (plain_of (codes "static") (key ∷ [])) key (change_of (codes "static") []) (none_after (command_of_number (codes "static")) (count_of 4294967295 key) (λ n. refl)) refl)
static_alike (key ∷ stamp ∷ []) = by_cells key _ (static_set stamp []) (static_some key stamp [])
static_alike (key ∷ stamp ∷ set ∷ sets) = by_cells key _ (static_set stamp (set ∷ sets)) (static_some key stamp (set ∷ sets))

unstatic_alike : (rest : List (List ℕ)) → AreAlike (codes "unstatic") rest
unfolding forms bare_of command_of_two_words command_of_number command_of_three_words cell_change_of deletion_of static_removed tomb_of
unstatic_alike [] = refl
unstatic_alike (key ∷ []) =
    neither _ _ (first_none _ (none_after _ (key_of key) (λ k. refl))) (no_shape (plain_of (codes "unstatic") (key ∷ [])) key (change_of (codes "unstatic") []) (none_after (command_of_number (codes "unstatic")) (count_of 4294967295 key) (λ n. refl)) refl)
unstatic_alike (key ∷ stamp ∷ []) =
    neither _ _ (first_none _ (none_after _ (key_of key) (λ k. none_after _ (stamp_of stamp) (λ ts. refl)))) (no_shape (plain_of (codes "unstatic") (key ∷ stamp ∷ [])) key (change_of (codes "unstatic") (stamp ∷ [])) refl refl)
unstatic_alike (key ∷ stamp ∷ time ∷ names) =
    by_cells key _ (static_removed stamp time names)
    ((λ i. option_and_then (λ k. tomb_read (λ dead. columns_to_end 1 (cell_unset dead) (statics_written k) names) (stamp_of stamp) (time_of time) i) (key_of key))
    ∙ (λ i. option_and_then (λ k. option_and_then (λ dead. some_columns (Gone dead) (statics_written k) names i) (tomb_of stamp time)) (key_of key))
    ∙ statics_read (λ dead. some_cells_of (Gone dead) names) (key_of key) (tomb_of stamp time))

-- ---- openings

whole_read : (id : Option ℕ) (key : Option (List ℕ)) →
    option_or (option_and_then (λ n. option_and_then (λ k. Some (on_slice k ([], true) ([], true) (OpenRead n k))) key) id) (option_or (option_and_then (λ n. option_and_then (λ k. None) key) id) None)
    ≡ option_map shape_saying (option_and_then (λ n. option_and_then (λ k. option_and_then (λ f. option_map (λ t. Open n k f t) (Some no_bound)) (Some no_bound)) key) id)
whole_read None key = refl
whole_read (Some n) None = refl
whole_read (Some n) (Some k) = refl

slice_read : (id : Option ℕ) (key : Option (List ℕ)) (from to : Option Bound) →
    option_and_then (λ n. option_and_then (λ k. option_and_then (λ f. option_and_then (λ t. Some (on_slice k f t (OpenRead n k))) (option_map limit to)) (option_map limit from)) key) id
    ≡ option_map shape_saying (option_and_then (λ n. option_and_then (λ k. option_and_then (λ f. option_map (λ t. Open n k f t) to) from) key) id)
slice_read None key from to = refl
slice_read (Some n) None from to = refl
slice_read (Some n) (Some k) None to = refl
slice_read (Some n) (Some k) (Some f) None = refl
slice_read (Some n) (Some k) (Some f) (Some t) = refl

-- neither of two forms has the words
two_none : (one other : Option Saying) → one ≡ None → other ≡ None → option_or one (option_or other None) ≡ None
two_none one other p q = (λ i. option_or (p i) (option_or (q i) None))

one_number : (verb word : List ℕ) (shape : Option Shape) → ((n : ℕ) → command_of_number verb n ≡ None) → shape ≡ None →
    option_or (option_map (λ command. Plain command) (option_and_then (command_of_number verb) (count_of 4294967295 word))) shape ≡ None
one_number verb word shape h p = λ i. option_or (option_map (λ command. Plain command) (none_after (command_of_number verb) (count_of 4294967295 word) h i)) (p i)

open_alike : (rest : List (List ℕ)) → AreAlike (codes "open") rest
unfolding forms bare_of command_of_two_words command_of_number command_of_three_words open_shape
open_alike [] = refl
open_alike (id ∷ []) =
    neither _ _ (two_none _ _ (none_after _ (count_of 4294967295 id) (λ n. refl)) (none_after _ (count_of 4294967295 id) (λ n. refl))) (one_number (codes "open") id None (λ n. refl) refl)
open_alike (id ∷ key ∷ []) = whole_read (count_of 4294967295 id) (key_of key)
open_alike (id ∷ key ∷ from ∷ []) =
    neither _ _ (two_none _ _ (none_after _ (count_of 4294967295 id) (λ n. none_after _ (key_of key) (λ k. refl)))
    (none_after _ (count_of 4294967295 id) (λ n. none_after _ (key_of key) (λ k. none_after _ (from_limit from) (λ f. refl))))) refl
open_alike (id ∷ key ∷ from ∷ to ∷ []) =
    (λ i. option_or (none_after (λ n. option_and_then {U = Saying} (λ k. None) (key_of key)) (count_of 4294967295 id) (λ n. none_after (λ k. None) (key_of key) (λ k. refl)) i)
    (option_or (option_and_then (λ n. option_and_then (λ k. option_and_then (λ f. option_and_then (λ t. Some (on_slice k f t (OpenRead n k))) (to_same to i)) (from_same from i)) (key_of key)) (count_of 4294967295 id)) None))
    ∙ or_none _ ∙ slice_read (count_of 4294967295 id) (key_of key) (range_start from) (range_end to)
open_alike (id ∷ key ∷ from ∷ to ∷ more ∷ words) =
    neither _ _ (two_none _ _ (none_after _ (count_of 4294967295 id) (λ n. none_after _ (key_of key) (λ k. refl)))
    (none_after _ (count_of 4294967295 id) (λ n. none_after _ (key_of key) (λ k. none_after _ (from_limit from) (λ f. none_after _ (to_limit to) (λ t. refl)))))) refl

-- ---- commands that are the same under each schema

told_read : (make : ℕ → Command) (n : Option ℕ) (key : Option (List ℕ)) →
    option_or (option_and_then (λ n. Some (λ schema. Ok (make n))) n) None
    ≡ option_map shape_saying (option_or (option_map (λ command. Plain command) (option_and_then (λ n. Some (make n)) n)) (option_and_then {T = List ℕ} {U = Shape} (λ k. None) key))
told_read make None None = refl
told_read make None (Some k) = refl
told_read make (Some n) key = refl

-- more words than a number
more_words : (word : List ℕ) → option_or (option_and_then {T = ℕ} {U = Saying} (λ n. None) (count_of 4294967295 word)) None ≡ option_map shape_saying (option_and_then {T = List ℕ} {U = Shape} (λ k. None) (key_of word))
more_words word = neither _ _ (first_none _ (none_after (λ n. None) (count_of 4294967295 word) (λ n. refl))) (none_after (λ k. None) (key_of word) (λ k. refl))

close_alike : (rest : List (List ℕ)) → AreAlike (codes "close") rest
unfolding forms bare_of command_of_two_words command_of_number command_of_three_words cell_change_of deletion_of
close_alike [] = refl
close_alike (n ∷ []) = told_read (λ n. Close n) (count_of 4294967295 n) (key_of n)
close_alike (n ∷ one ∷ []) = more_words n
close_alike (n ∷ one ∷ more ∷ words) = more_words n

evict_alike : (rest : List (List ℕ)) → AreAlike (codes "evict") rest
unfolding forms bare_of command_of_two_words command_of_number command_of_three_words cell_change_of deletion_of
evict_alike [] = refl
evict_alike (n ∷ []) = told_read (λ n. Evict n) (count_of 4294967295 n) (key_of n)
evict_alike (n ∷ one ∷ []) = more_words n
evict_alike (n ∷ one ∷ more ∷ words) = more_words n

compact_alike : (rest : List (List ℕ)) → AreAlike (codes "compact") rest
unfolding forms bare_of command_of_two_words command_of_number command_of_three_words cell_change_of deletion_of
compact_alike [] = refl
compact_alike (n ∷ []) = told_read (λ n. Compact n) (count_of 4294967295 n) (key_of n)
compact_alike (n ∷ one ∷ []) = more_words n
compact_alike (n ∷ one ∷ more ∷ words) = more_words n

clean_alike : (rest : List (List ℕ)) → AreAlike (codes "clean") rest
unfolding forms bare_of command_of_two_words command_of_number command_of_three_words cell_change_of deletion_of
clean_alike [] = refl
clean_alike (n ∷ []) = told_read (λ n. Clean n) (count_of 4294967295 n) (key_of n)
clean_alike (n ∷ one ∷ []) = more_words n
clean_alike (n ∷ one ∷ more ∷ words) = more_words n

stats_alike : (rest : List (List ℕ)) → AreAlike (codes "stats") rest
unfolding forms bare_of command_of_two_words command_of_number command_of_three_words cell_change_of deletion_of
stats_alike [] = refl
stats_alike (one ∷ []) = sym (ap (option_map shape_saying) (no_shape (plain_of (codes "stats") (one ∷ [])) one None (none_after (command_of_number (codes "stats")) (count_of 4294967295 one) (λ n. refl)) refl))
stats_alike (one ∷ other ∷ []) = sym (ap (option_map shape_saying) (none_after (λ k. None) (key_of one) (λ k. refl)))
stats_alike (one ∷ other ∷ more ∷ words) = sym (ap (option_map shape_saying) (none_after (λ k. None) (key_of one) (λ k. refl)))

two_read : (id n : Option ℕ) (key : Option (List ℕ)) →
    option_or (option_and_then (λ i. option_and_then (λ n. Some (λ schema. Ok (Read i n))) n) id) None
    ≡ option_map shape_saying (option_or (option_map (λ command. Plain command) (option_and_then (λ i. option_map (λ n. Read i n) n) id)) (option_and_then {T = List ℕ} {U = Shape} (λ k. None) key))
two_read None n None = refl
two_read None n (Some k) = refl
two_read (Some i) None None = refl
two_read (Some i) None (Some k) = refl
two_read (Some i) (Some n) key = refl

read_alike : (rest : List (List ℕ)) → AreAlike (codes "read") rest
unfolding forms bare_of command_of_two_words command_of_number command_of_three_words read_of cell_change_of deletion_of
read_alike [] = refl
read_alike (id ∷ []) =
    neither _ _ (first_none _ (none_after _ (count_of 4294967295 id) (λ n. refl))) (no_shape (plain_of (codes "read") (id ∷ [])) id None (none_after (command_of_number (codes "read")) (count_of 4294967295 id) (λ n. refl)) refl)
read_alike (id ∷ n ∷ []) = two_read (count_of 4294967295 id) (count_of 4294967295 n) (key_of id)
read_alike (id ∷ n ∷ more ∷ words) =
    neither _ _ (first_none _ (none_after _ (count_of 4294967295 id) (λ i. none_after _ (count_of 4294967295 n) (λ m. refl)))) (none_after (λ k. None) (key_of id) (λ k. refl))

begin_read : (begin step : Bool) (word : List ℕ) (key : Option (List ℕ)) →
    option_or (option_and_then {T = List ℕ} (λ w. Some (λ schema. Ok FlushBegin)) (if begin then Some word else None))
    (option_or (option_and_then {T = List ℕ} {U = Saying} (λ w. None) (if step then Some word else None)) None)
    ≡ option_map shape_saying (option_or (option_map (λ command. Plain command) (if begin then Some FlushBegin else None)) (option_and_then {T = List ℕ} {U = Shape} (λ k. None) key))
begin_read true step word key = refl
begin_read false true word None = refl
begin_read false true word (Some k) = refl
begin_read false false word None = refl
begin_read false false word (Some k) = refl

step_read : (begin step : Bool) (word : List ℕ) (n : Option ℕ) (key : Option (List ℕ)) →
    option_or (option_and_then {T = List ℕ} {U = Saying} (λ w. None) (if begin then Some word else None))
    (option_or (option_and_then {T = List ℕ} (λ w. option_and_then (λ n. Some (λ schema. Ok (FlushStep n))) n) (if step then Some word else None)) None)
    ≡ option_map shape_saying (option_or (option_map (λ command. Plain command) (if step then option_map (λ n. FlushStep n) n else None)) (option_and_then {T = List ℕ} {U = Shape} (λ k. None) key))
step_read true true word None None = refl
step_read true true word None (Some k) = refl
step_read true true word (Some n) key = refl
step_read true false word n None = refl
step_read true false word n (Some k) = refl
step_read false true word None None = refl
step_read false true word None (Some k) = refl
step_read false true word (Some n) key = refl
step_read false false word n None = refl
step_read false false word n (Some k) = refl

flush_alike : (rest : List (List ℕ)) → AreAlike (codes "flush") rest
unfolding forms bare_of command_of_two_words command_of_three_words step_of cell_change_of deletion_of
flush_alike [] = refl
flush_alike (one ∷ []) = begin_read (is_word one (codes "begin")) (is_word one (codes "step")) one (key_of one)
flush_alike (one ∷ other ∷ []) = step_read (is_word one (codes "begin")) (is_word one (codes "step")) one (count_of 4294967295 other) (key_of one)
flush_alike (one ∷ other ∷ more ∷ words) =
    neither _ _ (two_none _ _ (none_after _ (if is_word one (codes "begin") then Some one else None) (λ w. refl))
    (none_after _ (if is_word one (codes "step") then Some one else None) (λ w. none_after _ (count_of 4294967295 other) (λ n. refl)))) (none_after (λ k. None) (key_of one) (λ k. refl))

-- ---- each line of words

-- a word that is none of these
abbrev AreOthers : List ℕ → List (List ℕ) → Type 0
AreOthers verb texts = AllByRecursion (λ text. is_word verb text ≡ false) texts

by_verb : (P : List ℕ → Type 0) (verb : List ℕ) (texts : List (List ℕ)) → AllByRecursion P texts → (AreOthers verb texts → P verb) → P verb
by_verb P verb [] each none = none tt
by_verb P verb (text ∷ texts) each none =
    elim (is_word verb text) as (λ b. is_word verb text ≡ b → P verb) [
      | true ↦ λ e. subst P (sym (same_text verb text (sym e))) each.0
      | false ↦ λ e. by_verb P verb texts each.1 (λ others. none (e, others))
    ] refl

-- the first words of the forms
abbrev verbs : List (List ℕ)
verbs =
    codes "insert" ∷ codes "update" ∷ codes "unset" ∷ codes "delete" ∷ codes "delrange" ∷ codes "delpart" ∷ codes "static" ∷ codes "unstatic" ∷ codes "open" ∷ codes "read" ∷ codes "close" ∷ codes "flush"
    ∷ codes "evict" ∷ codes "compact" ∷ codes "clean" ∷ codes "stats" ∷ []

no_form : (verb : List ℕ) (rest : List (List ℕ)) → AreOthers verb verbs → first_form forms (verb ∷ rest) ≡ None
unfolding forms
no_form verb rest (insert, (update, (unset, (delete, (delrange, (delpart, (static, (unstatic, (opening, (read, (close, (flush, (evict, (compact, (clean, (stats, end)))))))))))))))) =
    rw (insert, update, unset, delete, delrange, delpart, static, unstatic, opening, read, close, flush, evict, compact, clean, stats) refl

told_none : (verb : List ℕ) (n : ℕ) → AreOthers verb verbs → command_of_number verb n ≡ None
unfolding command_of_number
told_none verb n (insert, (update, (unset, (delete, (delrange, (delpart, (static, (unstatic, (opening, (read, (close, (flush, (evict, (compact, (clean, (stats, end)))))))))))))))) = rw (close, evict, compact, clean) refl

change_none : (verb : List ℕ) (words : List (List ℕ)) → AreOthers verb verbs → change_of verb words ≡ None
unfolding cell_change_of deletion_of
change_none verb words (insert, (update, (unset, (delete, (delrange, (delpart, (static, (unstatic, (opening, (read, (close, (flush, (evict, (compact, (clean, (stats, end)))))))))))))))) =
    rw (insert, update, unset, delete, delrange, delpart, static, unstatic) refl

plain_none : (verb : List ℕ) (rest : List (List ℕ)) → AreOthers verb verbs → is_word verb (codes "flush") ≡ false → is_word verb (codes "stats") ≡ false → is_word verb (codes "read") ≡ false → plain_of verb rest ≡ None
unfolding bare_of command_of_two_words command_of_three_words
plain_none verb [] o flush stats read = rw (flush, stats) refl
plain_none verb (one ∷ []) o flush stats read = rw flush (none_after (command_of_number verb) (count_of 4294967295 one) (λ n. told_none verb n o))
plain_none verb (one ∷ other ∷ []) o flush stats read = rw (read, flush) refl
plain_none verb (one ∷ other ∷ more ∷ words) o flush stats read = refl

write_none : (verb : List ℕ) (rest : List (List ℕ)) → AreOthers verb verbs → write_of verb rest ≡ None
write_none verb [] o = refl
write_none verb (key ∷ words) o =
    (λ i. option_and_then (λ k. option_map (λ change. Written k change) (change_none verb words o i)) (key_of key)) ∙ none_after (λ k. None) (key_of key) (λ k. refl)

shape_none : (verb : List ℕ) (rest : List (List ℕ)) → AreOthers verb verbs → shape_of (verb ∷ rest) ≡ None
shape_none verb rest (insert, (update, (unset, (delete, (delrange, (delpart, (static, (unstatic, (opening, (read, (close, (flush, (evict, (compact, (clean, (stats, end)))))))))))))))) =
    let o : AreOthers verb verbs = (insert, (update, (unset, (delete, (delrange, (delpart, (static, (unstatic, (opening, (read, (close, (flush, (evict, (compact, (clean, (stats, end)))))))))))))))) in
    (λ i. option_or (option_map (λ command. Plain command) (plain_none verb rest o flush stats read i)) (if opening i then open_of rest else write_of verb rest)) ∙ write_none verb rest o

first_alike : (words : List (List ℕ)) → first_form forms words ≡ option_map shape_saying (shape_of words)
unfolding forms
first_alike [] = refl
first_alike (verb ∷ rest) =
    by_verb (λ verb. (rest : List (List ℕ)) → AreAlike verb rest) verb verbs (
      insert_alike,
      (
        update_alike,
        (
          unset_alike,
          (
            delete_alike,
            (
              delrange_alike,
              (
                delpart_alike,
                (
                  static_alike,
                  (
                    unstatic_alike,
                    (open_alike, (read_alike, (close_alike, (flush_alike, (evict_alike, (compact_alike, (clean_alike, (stats_alike, tt)))))))),
                  ),
                ),
              ),
            ),
          ),
        ),
      ),
    )
    (λ o rest. neither _ _ (no_form verb rest o) (shape_none verb rest o)) rest

-- what words say by the first form that they have is what their shape says
pub words_alike : (words : List (List ℕ)) → slice_get (filter_map (λ form. form words) forms) 0 ≡ option_map shape_saying (shape_of words)
words_alike words = first_said forms words ∙ first_alike words
