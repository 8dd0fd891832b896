-- The parts of a line's words.
use Rattle.std.specs.Prelude.{ℕ, ℤ, Bool, true, false, ◌+◌, ◌-◌, ◌==◌, List, [], ◌∷◌, length, take, drop, codes, Option, Some, None, if◌then◌else◌, option_and_then}
use Rattle.std.specs.List.{position}
use Rattle.std.specs.Option.{option_map, option_or}
use Rattle.rc_cell.specs.declared.writes.Cell.{Cell}
use Rattle.rc_cell.specs.declared.writes.Cell.TheVariants.{Live, Dead}
use Rattle.rc_cell.specs.declared.writes.Tomb.{Tomb}
use Rattle.rc_schema.specs.SchemaValue.{is_name}
use Rattle.rc_spelling.specs.Numbers.{number_of, signed_of}
use Rattle.rc_spelling.specs.Spelling.{bytes_spelled, components_spelled}
use Rattle.rc_spelling.specs.Words.{is_word}

-- what stands behind a text with which a word begins
unfoldable pub without_front : List ℕ → List ℕ → Option (List ℕ)
without_front text word = if is_word (take (length text) word) text then Some (drop (length text) word) else None

-- what stands before a text with which a word ends
unfoldable pub without_back : List ℕ → List ℕ → Option (List ℕ)
without_back text word = if is_word (drop (length word - length text) word) text then Some (take (length word - length text) word) else None

-- a timestamp, `ts=TS`: a signed number within 64 bits
unfoldable pub stamp_of : List ℕ → Option ℤ
stamp_of word = option_and_then signed_of (without_front (codes "ts=") word)

-- a deletion time, `dt=DT`: a number within 32 bits
unfoldable pub time_of : List ℕ → Option ℕ
time_of word = option_and_then (number_of 4294967295) (without_front (codes "dt=") word)

-- a partition key: a spelling that is not empty
abbrev pub key_of : List ℕ → Option (List ℕ)
key_of [] = None
key_of (byte ∷ rest) = bytes_spelled (byte ∷ rest)

-- the first five components that a word spells: no schema has as many, so five are as wrong as more are
unfoldable pub pieces_of : List ℕ → Option (List (List ℕ))
pieces_of word = option_map (take 5) (components_spelled word)

-- a limit of keys, the components of a prefix and whether keys with that prefix are within it: `-` for none, or a prefix beside one of two marks, the inclusive or the exclusive one
abbrev pub limit_of : List ℕ → Option (List ℕ) → Option (List ℕ) → Option (List (List ℕ) × Bool)
limit_of word inclusive exclusive =
    if is_word word (codes "-") then Some ([], true)
    else option_and_then (λ (ck : List ℕ × Bool). option_map (λ pieces. (pieces, ck.1)) (pieces_of ck.0)) (option_or (option_map (λ ck. (ck, true)) inclusive) (option_map (λ ck. (ck, false)) exclusive))

-- where keys begin, `from=` and `-`, `[CK` or `(CK`
unfoldable pub from_limit : List ℕ → Option (List (List ℕ) × Bool)
from_limit word = option_and_then (λ from. limit_of from (without_front (codes "[") from) (without_front (codes "(") from)) (without_front (codes "from=") word)

-- where keys end, `to=` and `-`, `CK]` or `CK)`
unfoldable pub to_limit : List ℕ → Option (List (List ℕ) × Bool)
to_limit word = option_and_then (λ to. limit_of to (without_back (codes "]") to) (without_back (codes ")") to)) (without_front (codes "to=") word)

-- a name in the form of a column's, with a cell
unfoldable pub named_cell : List ℕ → Option Cell → Option (List ℕ × Cell)
named_cell name cell = if is_name name then option_map (λ c. (name, c)) cell else None

-- `NAME=VALUE`, a live cell: the first `=` ends the name
unfoldable pub cell_set : ℤ → List ℕ → Option (List ℕ × Cell)
cell_set ts word = option_and_then (λ at. named_cell (take at word) (option_map (λ value. Live ts value) (bytes_spelled (drop (at + 1) word)))) (position (λ byte. byte == 61) word)

-- `NAME`, a dead cell
abbrev pub cell_unset : Tomb → List ℕ → Option (List ℕ × Cell)
cell_unset tomb word = named_cell word (Some (Dead tomb.ts tomb.dt))
