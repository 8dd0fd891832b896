-- Words of the laws on which write wins.
use Rattle.std.specs.Prelude.{ℕ, List, [], ◌∷◌, ◌≡◌}
use Rattle.rc_cell.specs.declared.writes.Cell.{Cell}
use Rattle.rc_cell.specs.declared.rows.Row.{Row}
use Rattle.rc_cell.specs.Winner.{all_cells, at_column, joined_row}

-- the cells that the rows have in the column
abbrev pub cells_at : ℕ → List Row → List Cell
cells_at column rows = at_column column (all_cells rows)

-- a row says no more than another: joined to it, it changes nothing
abbrev pub SaysNoMore : Row → Row → Type 0
SaysNoMore row other = joined_row (row ∷ other ∷ []) ≡ other
