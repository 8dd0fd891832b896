-- Which write wins: the reconciliation that Cassandra and ScyllaDB share. This is the one place where its rules stand.
use Rattle.std.specs.Prelude.{ℕ, ℤ, Bool, true, false, not, ◌&&◌, ◌||◌, ◌==◌, nat_lt, int_lt, List, [], ◌∷◌, Option, Some, None, IsTrue, map as list_map}
use Rattle.std.specs.declared.cmp.Ordering.{Ordering}
use Rattle.std.specs.Ordering.{nat_cmp, int_cmp, int_eq, is_gt}
use Rattle.std.specs.Option.{option_map}
use Rattle.std.specs.List.{filter, filter_map, flat_map, list_all}
use Rattle.std.specs.FinMap as map
use Rattle.rc_cell.specs.declared.writes.Cell.{Cell}
use Rattle.rc_cell.specs.declared.writes.Cell.TheVariants.{Live, Dead}
use Rattle.rc_cell.specs.declared.writes.Tomb.{Tomb}
use Rattle.rc_cell.specs.declared.rows.Row.{Row}
use Rattle.rc_cell.specs.Columns.{ascending}
use Rattle.rc_cell.specs.Orders.{timestamp_of, tomb_cmp}

-- of two values the larger as unsigned bytes; a proper prefix is smaller
abbrev pub is_larger : List ℕ → List ℕ → Bool
is_larger [] ys = false
is_larger (x ∷ xs) [] = true
is_larger (x ∷ xs) (y ∷ ys) = nat_lt y x || (x == y && is_larger xs ys)

-- at equal timestamps a dead cell beats a live one, a live one beats a live one of a smaller value, and a dead one a dead one of a
-- smaller deletion time
abbrev pub beats_at_tie : Cell → Cell → Bool
beats_at_tie (Dead ts time) (Live ts' value) = true
beats_at_tie (Live ts value) (Dead ts' time) = false
beats_at_tie (Live ts value) (Live ts' value') = is_larger value value'
beats_at_tie (Dead ts time) (Dead ts' time') = nat_lt time' time

-- of two cells of one column in one row the first beats the second: by a larger timestamp, or at equal timestamps as above
abbrev pub beats : Cell → Cell → Bool
beats c d = int_lt (timestamp_of d) (timestamp_of c) || (int_eq (timestamp_of c) (timestamp_of d) && beats_at_tie c d)

-- the first of a list, if there is one
abbrev pub first_of : {X : Type 0} → List X → Option X
first_of [] = None
first_of (x ∷ xs) = Some x

-- the member of a list that no other member beats; none of an empty list
abbrev pub unbeaten : {X : Type 0} → (X → X → Bool) → List X → Option X
unbeaten wins xs = first_of (filter (λ x. list_all (λ y. not (wins y x)) xs) xs)

-- the winner among the cells of a column
unfoldable pub winner : List Cell → Option Cell
winner cells = unbeaten beats cells

-- the greatest of a list in an order; none of an empty list
unfoldable pub greatest : {X : Type 0} → (X → X → Ordering) → List X → Option X
greatest cmp xs = unbeaten (λ x y. is_gt (cmp x y)) xs

-- the markers that rows have, and their tombstones
abbrev pub markers : List Row → List ℤ
markers rows = filter_map (λ row. row.marker) rows

-- the rows' tombstones, in the rows' order
abbrev pub tombs : List Row → List Tomb
tombs rows = filter_map (λ row. row.tomb) rows

-- all cells of rows, each with its column
abbrev pub all_cells : List Row → List (ℕ × Cell)
all_cells rows = flat_map (λ row. row.cells) rows

-- those of one column
abbrev pub at_column : ℕ → List (ℕ × Cell) → List Cell
at_column column cells = list_map (λ e. e.1) (filter (λ e. column == e.0) cells)

-- the columns that have a cell, ascending, each once
abbrev pub columns : List (ℕ × Cell) → List ℕ
columns cells = map.keys (map.from_entries {R = nat_cmp} cells)

-- of each column that has a cell the winner among all its cells, by ascending column
unfoldable pub winners : List (ℕ × Cell) → List (ℕ × Cell)
winners cells = filter_map (λ column. option_map (λ cell. (column, cell)) (winner (at_column column cells))) (columns cells)

-- the rows as one: the greatest marker, the greatest tombstone, and of each column the winner among the cells of all rows
unfoldable pub joined_row : List Row → Row
joined_row rows = record {
  marker = greatest int_cmp (markers rows);
  tomb = greatest tomb_cmp (tombs rows);
  cells = winners (all_cells rows);
}

-- the row of which nothing was written
abbrev pub empty_row : Row
empty_row = record { marker = None; tomb = None; cells = [] }

-- a row whose cells strictly ascend by column, as those of every value of the type do
abbrev pub IsRow : Row → Type 0
IsRow row = IsTrue (ascending row.cells)
