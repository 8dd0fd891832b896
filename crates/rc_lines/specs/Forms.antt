-- The forms of lines: the words that each has, in order, and what they say under a schema.
use Rattle.std.specs.Prelude.{ℕ, true, ◌&&◌, nat_le, List, [], ◌∷◌, length, map as list_map, codes, Option, Some, None, Ok, if◌then◌else◌, option_and_then}
use Rattle.rc_cell.specs.declared.writes.Cell.{Cell}
use Rattle.rc_cell.specs.declared.writes.Tomb.{Tomb}
use Rattle.rc_schema.specs.SchemaValue.{are_distinct_by}
use Rattle.rc_spelling.specs.Numbers.{count_of}
use Rattle.rc_spelling.specs.Words.{is_word, each_of}
use Rattle.rc_lines.specs.declared.commands.Command.TheVariants.{OpenRead, Read, Close, Flush, FlushBegin, FlushStep, Evict, Compact, Clean, Stats}
use Rattle.rc_lines.specs.Parts.{stamp_of, time_of, key_of, pieces_of, cell_set, cell_unset, from_limit, to_limit}
use Rattle.rc_lines.specs.UnderSchema.{Saying, row_written, statics_written, on_slice, range_written, partition_written}

-- what words say, where they are of a form
abbrev pub Form : Type 0
Form = List (List ℕ) → Option Saying

-- no more words
abbrev pub end_of_line : Saying → List (List ℕ) → Option Saying
end_of_line saying [] = Some saying
end_of_line saying (word ∷ words) = None

-- one word that has a value, and a form behind it
abbrev pub word_as : {A : Type 0} → (List ℕ → Option A) → (A → Form) → List (List ℕ) → Option Saying
word_as read more [] = None
word_as read more (word ∷ words) = option_and_then (λ value. more value words) (read word)

-- this word, and a form behind it
abbrev pub this_word : List ℕ → Form → Form
this_word text more = word_as (λ word. if is_word word text then Some word else None) (λ _. more)

-- a number from 1 to 4294967295, and a form behind it
abbrev pub count_word : (ℕ → Form) → Form
count_word more = word_as (count_of 4294967295) more

-- `ts=TS dt=DT`, and a form behind it
abbrev pub tomb_words : (Tomb → Form) → Form
tomb_words more = word_as stamp_of (λ ts. word_as time_of (λ dt. more (record { ts = ts; dt = dt })))

-- words of columns up to the end, at least so many, no name twice
abbrev pub columns_to_end : ℕ → (List ℕ → Option (List ℕ × Cell)) → (List (List ℕ × Cell) → Saying) → Form
columns_to_end least read saying words =
    option_and_then (λ cells. if nat_le least (length cells) && are_distinct_by is_word (list_map (λ e. e.0) cells) then Some (saying cells) else None) (each_of read words)

-- the forms: an insert with a marker, an update without one; dead cells; tombstones of a row, a range and the partition; static cells, live and dead; the opening of a
-- reader of all rows or of those between two limits, its next lines and its end; then what is done to the memtable, the cache and the memory
unfoldable pub forms : List Form
forms =
    this_word (codes "insert") (word_as key_of (λ key. word_as pieces_of (λ ck. word_as stamp_of (λ ts. columns_to_end 0 (cell_set ts) (row_written key ck (Some ts) None)))))
    ∷ this_word (codes "update") (word_as key_of (λ key. word_as pieces_of (λ ck. word_as stamp_of (λ ts. columns_to_end 1 (cell_set ts) (row_written key ck None None)))))
    ∷ this_word (codes "unset") (word_as key_of (λ key. word_as pieces_of (λ ck. tomb_words (λ dead. columns_to_end 1 (cell_unset dead) (row_written key ck None None)))))
    ∷ this_word (codes "delete") (word_as key_of (λ key. word_as pieces_of (λ ck. tomb_words (λ dead. end_of_line (row_written key ck None (Some dead) [])))))
    ∷ this_word (codes "delrange") (word_as key_of (λ key. word_as from_limit (λ from. word_as to_limit (λ to. tomb_words (λ dead. end_of_line (range_written key from to dead))))))
    ∷ this_word (codes "delpart") (word_as key_of (λ key. tomb_words (λ dead. end_of_line (partition_written key dead))))
    ∷ this_word (codes "static") (word_as key_of (λ key. word_as stamp_of (λ ts. columns_to_end 1 (cell_set ts) (statics_written key))))
    ∷ this_word (codes "unstatic") (word_as key_of (λ key. tomb_words (λ dead. columns_to_end 1 (cell_unset dead) (statics_written key))))
    ∷ this_word (codes "open") (count_word (λ id. word_as key_of (λ key. end_of_line (on_slice key ([], true) ([], true) (OpenRead id key)))))
    ∷ this_word (codes "open") (count_word (λ id. word_as key_of (λ key. word_as from_limit (λ from. word_as to_limit (λ to. end_of_line (on_slice key from to (OpenRead id key)))))))
    ∷ this_word (codes "read") (count_word (λ id. count_word (λ n. end_of_line (λ schema. Ok (Read id n)))))
    ∷ this_word (codes "close") (count_word (λ id. end_of_line (λ schema. Ok (Close id))))
    ∷ this_word (codes "flush") (end_of_line (λ schema. Ok Flush))
    ∷ this_word (codes "flush") (this_word (codes "begin") (end_of_line (λ schema. Ok FlushBegin)))
    ∷ this_word (codes "flush") (this_word (codes "step") (count_word (λ n. end_of_line (λ schema. Ok (FlushStep n)))))
    ∷ this_word (codes "evict") (count_word (λ n. end_of_line (λ schema. Ok (Evict n))))
    ∷ this_word (codes "compact") (count_word (λ n. end_of_line (λ schema. Ok (Compact n))))
    ∷ this_word (codes "clean") (count_word (λ n. end_of_line (λ schema. Ok (Clean n))))
    ∷ this_word (codes "stats") (end_of_line (λ schema. Ok Stats)) ∷ []
