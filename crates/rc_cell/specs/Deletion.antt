-- What a tombstone deletes of a row, and when a row is live.
use Rattle.std.specs.Prelude.{ℕ, ℤ, Bool, true, ◌||◌, is_some, int_lt, List, ◌++◌, Option, Some, None, if◌then◌else◌}
use Rattle.std.specs.Option.{option_to_list}
use Rattle.std.specs.List.{filter, list_any}
use Rattle.rc_cell.specs.declared.writes.Cell.{Cell}
use Rattle.rc_cell.specs.declared.writes.Tomb.{Tomb}
use Rattle.rc_cell.specs.declared.rows.Row.{Row}
use Rattle.rc_cell.specs.Orders.{timestamp_of, is_live_cell, tomb_cmp}
use Rattle.rc_cell.specs.Winner.{greatest}

-- a tombstone deletes the writes whose timestamp is less than or equal to its own; with none, every write survives
abbrev pub survives : Option Tomb → ℤ → Bool
survives None ts = true
survives (Some t) ts = int_lt t.ts ts

-- the tombstone in force in a row: the greater of the one that covers it and its own
abbrev pub in_force : Option Tomb → Row → Option Tomb
in_force cover row = greatest tomb_cmp (option_to_list cover ++ option_to_list row.tomb)

-- the marker, if it survives
abbrev pub surviving_marker : Option Tomb → Option ℤ → Option ℤ
surviving_marker tomb None = None
surviving_marker tomb (Some ts) = if survives tomb ts then Some ts else None

-- the cells that survive
abbrev pub surviving_cells : Option Tomb → List (ℕ × Cell) → List (ℕ × Cell)
surviving_cells tomb cells = filter (λ e. survives tomb (timestamp_of e.1)) cells

-- what a covering tombstone leaves of a row: its own tombstone, and the marker and the cells that survive
unfoldable pub shadowed_row : Option Tomb → Row → Row
shadowed_row cover row = record {
  marker = surviving_marker (in_force cover row) row.marker;
  tomb = row.tomb;
  cells = surviving_cells (in_force cover row) row.cells;
}

-- a row with a marker or a live cell is given to readers
abbrev pub has_life : Row → Bool
has_life row = is_some row.marker || list_any (λ e. is_live_cell e.1) row.cells
