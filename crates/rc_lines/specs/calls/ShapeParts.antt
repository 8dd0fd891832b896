-- The parts of a line as the reading by shapes has them: stamps, cells and bounds.
use Rattle.std.specs.Prelude.{ℕ, ℤ, Bool, true, false, ◌+◌, ◌==◌, List, [], ◌∷◌, take, drop, map as list_map, codes, Option, Some, None, if◌then◌else◌, option_and_then}
use Rattle.std.specs.List.{position}
use Rattle.std.specs.Option.{option_map}
use Rattle.rc_cell.specs.declared.writes.Cell.{Cell}
use Rattle.rc_cell.specs.declared.writes.Cell.TheVariants.{Live, Dead}
use Rattle.rc_cell.specs.declared.writes.Tomb.{Tomb}
use Rattle.rc_schema.specs.SchemaValue.{are_distinct_by}
use Rattle.rc_spelling.specs.Words.{is_word}
use Rattle.rc_spelling.specs.Spelling.{bytes_spelled}
use Rattle.rc_lines.specs.declared.shapes.Bound.{Bound}
use Rattle.rc_lines.specs.declared.shapes.Stamp.{Stamp}
use Rattle.rc_lines.specs.declared.shapes.Stamp.TheVariants.{Alive, Gone}
use Rattle.rc_lines.specs.Parts.{without_front, without_back, stamp_of, time_of, pieces_of, named_cell}

-- a tombstone, `ts=TS dt=DT`
unfoldable pub tomb_of : List ℕ → List ℕ → Option Tomb
tomb_of stamp time = option_and_then (λ ts. option_map (λ dt. record { ts = ts; dt = dt }) (time_of time)) (stamp_of stamp)

-- a live cell of a spelling, which may be empty
unfoldable pub live_of : ℤ → List ℕ → Option Cell
live_of ts value = option_map (λ bytes. Live ts bytes) (bytes_spelled value)

-- what stands before and behind the first `=` of a word
unfoldable pub split_set : List ℕ → Option (List ℕ × List ℕ)
split_set word = option_map (λ at. (take at word, drop (at + 1) word)) (position (λ byte. byte == 61) word)

-- `NAME=VALUE`: the first `=` ends the name
unfoldable pub set_of : ℤ → List ℕ → Option (List ℕ × Cell)
set_of ts word = option_and_then (λ parts. named_cell parts.0 (live_of ts parts.1)) (split_set word)

-- what a word says of a column: `NAME=VALUE` where its line has a timestamp, and NAME where it has a tombstone
abbrev pub cell_said : Stamp → List ℕ → Option (List ℕ × Cell)
cell_said (Alive ts) word = set_of ts word
cell_said (Gone tomb) word = named_cell word (Some (Dead tomb.ts tomb.dt))

-- what each word says of a column
abbrev pub each_cell_of : Stamp → List (List ℕ) → Option (List (List ℕ × Cell))
each_cell_of stamp [] = Some []
each_cell_of stamp (word ∷ words) = option_and_then (λ cell. option_map (λ cells. cell ∷ cells) (each_cell_of stamp words)) (cell_said stamp word)

-- whether no name stands there twice
abbrev pub are_distinct : List (List ℕ × Cell) → Bool
are_distinct cells = are_distinct_by is_word (list_map (λ e. e.0) cells)

-- the columns that words speak of, none of them twice
unfoldable pub named_cells : Stamp → List (List ℕ) → Option (List (List ℕ × Cell))
named_cells stamp words = option_and_then (λ cells. if are_distinct cells then Some cells else None) (each_cell_of stamp words)

-- the same of at least one word
abbrev pub some_cells_of : Stamp → List (List ℕ) → Option (List (List ℕ × Cell))
some_cells_of stamp [] = None
some_cells_of stamp (word ∷ words) = named_cells stamp (word ∷ words)

-- no bound: the empty prefix, inclusive
abbrev pub no_bound : Bound
no_bound = record { pieces = []; inclusive = true }

-- a bound at a prefix of one component and more
unfoldable pub bound_at : Bool → List ℕ → Option Bound
bound_at inclusive ck = option_map (λ pieces. record { pieces = pieces; inclusive = inclusive }) (pieces_of ck)

-- a bound, inclusive by the first mark, exclusive by the second
abbrev pub marked_bound : Option (List ℕ) → Option (List ℕ) → Option Bound
marked_bound (Some ck) exclusive = bound_at true ck
marked_bound None exclusive = option_and_then (bound_at false) exclusive

-- FROM: `-`, `[CK` or `(CK`
unfoldable pub from_of : List ℕ → Option Bound
from_of word = if is_word word (codes "-") then Some no_bound else marked_bound (without_front (codes "[") word) (without_front (codes "(") word)

-- TO: `-`, `CK]` or `CK)`
unfoldable pub to_of : List ℕ → Option Bound
to_of word = if is_word word (codes "-") then Some no_bound else marked_bound (without_back (codes "]") word) (without_back (codes ")") word)

-- where a range begins, `from=FROM`
unfoldable pub range_start : List ℕ → Option Bound
range_start word = option_and_then from_of (without_front (codes "from=") word)

-- where a range ends, `to=TO`
unfoldable pub range_end : List ℕ → Option Bound
range_end word = option_and_then to_of (without_front (codes "to=") word)
