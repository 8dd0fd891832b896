-- What a reader is given of a partition: lines, picked from all writes to it.
use Rattle.std.specs.Prelude.{ℕ, ◌||◌, List, [], ◌++◌, Option, Some, None, if◌then◌else◌}
use Rattle.std.specs.Option.{option_map, option_to_list}
use Rattle.std.specs.List.{filter, filter_map, list_any}
use Rattle.rc_cell.specs.declared.rows.Row.{Row}
use Rattle.rc_cell.specs.declared.writes.Cell.{Cell}
use Rattle.rc_cell.specs.declared.writes.Cell.TheVariants.{Live, Dead}
use Rattle.rc_cell.specs.declared.writes.Tomb.{Tomb}
use Rattle.rc_cell.specs.Deletion.{survives}
use Rattle.rc_cell.specs.Winner.{all_cells, empty_row, markers, winners}
use Rattle.rc_position.specs.declared.comps.Comp.{Comp}
use Rattle.rc_position.specs.declared.positions.Pos.{Pos}
use Rattle.rc_position.specs.declared.slices.Slice.{Slice}
use Rattle.rc_position.specs.declared.positions.Weight.TheVariants.{Before, After}
pub use Rattle.rc_mutation.specs.Slices.{in_slice}
use Rattle.rc_mutation.specs.declared.mutations.Mutation.{Mutation}
use Rattle.rc_mutation.specs.Fragments.{has_any}
use Rattle.rc_mutation.specs.Source.{all_rows, row_cover, keys, rows_at, source_at_head, static_rows}
use Rattle.rc_query.specs.declared.lines.OutLine.{OutLine}
use Rattle.rc_query.specs.declared.lines.OutLine.TheVariants as line

-- the value of a cell, if it is live and survives the cover
abbrev pub live_value : Option Tomb → Cell → Option (List ℕ)
live_value cover (Live ts value) = if survives cover ts then Some value else None
live_value cover (Dead ts dt) = None

-- the live values of cells, one a column
abbrev pub live_values : Option Tomb → List (ℕ × Cell) → List (ℕ × List ℕ)
live_values cover cells = filter_map (λ e. option_map (λ value. (e.0, value)) (live_value cover e.1)) cells

-- the static line of static rows under the partition tombstone: the live values of their columns' winners, if there is one
abbrev pub static_line : Option Tomb → List Row → Option OutLine
static_line head rows = let values = live_values head (winners (all_cells rows)) in
    if has_any values then Some (line.Static values) else None

-- the line of rows written at one key under a cover: the live values of its columns' winners. It has one if there is such a value,
-- or a marker that survives the cover
abbrev pub line_of : Option Tomb → List Comp → List Row → Option OutLine
line_of cover key rows = let values = live_values cover (winners (all_cells rows)) in
    if has_any values || list_any (survives cover) (markers rows) then Some (line.Row key values) else None

-- the lines of the keys that occur and stand in the slice, ascending, each once
abbrev pub row_lines : List Mutation → Slice → List OutLine
row_lines changes slice = filter_map (λ key. line_of (row_cover changes key) key (rows_at key (all_rows changes))) (filter (in_slice slice) (keys (all_rows changes)))

-- the static line, whatever the slice; then the row lines
unfoldable pub answer : List Mutation → Slice → List OutLine
answer changes slice = option_to_list (static_line (source_at_head changes) (static_rows changes)) ++ row_lines changes slice

-- the part of a slice before a position
abbrev pub sliced_before : Slice → Pos → Slice
sliced_before slice x = record { from = slice.from; to = x }

-- the part of a slice from a position on
abbrev pub sliced_from : Slice → Pos → Slice
sliced_from slice x = record { from = x; to = slice.to }

-- all clustered positions
abbrev pub whole_slice : Slice
whole_slice = record { from = record { prefix = []; weight = Before }; to = record { prefix = []; weight = After } }

-- a mutation that has rows alone
abbrev pub rows_alone : List (List Comp × Row) → Mutation
rows_alone rows = record { pt = None; statics = empty_row; rows = rows; ranges = [] }
