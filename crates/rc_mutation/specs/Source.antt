-- What a list of writes to one partition says at each place of it: the source at a place, picked from all of them.
use Rattle.std.specs.Prelude.{◌≡◌, ℕ, List, ◌++◌, Option, map as list_map, IsTrue}
use Rattle.std.specs.Ordering.{eq_by_cmp}
use Rattle.std.specs.List.{filter, filter_map, flat_map}
use Rattle.rc_cell.specs.declared.rows.Row.{Row}
use Rattle.rc_cell.specs.declared.writes.Tomb.{Tomb}
use Rattle.rc_cell.specs.Columns.{ascending}
use Rattle.rc_cell.specs.Orders.{tomb_cmp}
use Rattle.rc_cell.specs.Winner.{greatest, joined_row, tombs}
use Rattle.rc_position.specs.declared.comps.Comp.{Comp}
use Rattle.rc_position.specs.declared.positions.Pos.{Pos}
use Rattle.rc_position.specs.Position.{bytes_cmp, pos_cmp, row_pos}
use Rattle.rc_ranges.specs.declared.pieces.Piece.{Piece}
use Rattle.rc_ranges.specs.Cover.{tombs_over, IsCanonical, cover as range_tomb}
use Rattle.rc_mutation.specs.declared.mutations.Mutation.{Mutation}
use Rattle.rc_mutation.specs.declared.mutations.Write.{Write}
pub use Rattle.rc_mutation.specs.Rows.{rows_at, keys, joined_rows, IsRows}
pub use Rattle.rc_mutation.specs.Statics.{has_cells_alone}

-- what is written of the partition of a key, in the order of the writes
abbrev pub changes_to : List ℕ → List Write → List Mutation
changes_to key writes = list_map (λ w. w.change) (filter (λ w. eq_by_cmp bytes_cmp w.key key) writes)

-- the partition tombstones of writes
abbrev pub partition_tombs : List Mutation → List Tomb
partition_tombs changes = filter_map (λ change. change.pt) changes

-- their static rows
abbrev pub static_rows : List Mutation → List Row
static_rows changes = list_map (λ change. change.statics) changes

-- their rows, each with its key
abbrev pub all_rows : List Mutation → List (List Comp × Row)
all_rows changes = flat_map (λ change. change.rows) changes

-- their pieces of range tombstones
abbrev pub all_pieces : List Mutation → List Piece
all_pieces changes = flat_map (λ change. change.ranges) changes

-- the rows whose position is x
abbrev pub rows_in : Pos → List (List Comp × Row) → List Row
rows_in x rows = list_map (λ e. e.1) (filter (λ e. eq_by_cmp pos_cmp x (row_pos e.0)) rows)

-- the source at the head: the greatest partition tombstone
abbrev pub source_at_head : List Mutation → Option Tomb
source_at_head changes = greatest tomb_cmp (partition_tombs changes)

-- the source at the static row: the static rows as one
abbrev pub source_at_static : List Mutation → Row
source_at_static changes = joined_row (static_rows changes)

-- the source at a clustered position: the rows there as one, and the range tombstone in force
abbrev pub source_at : List Mutation → Pos → Row × Option Tomb
source_at changes x = (joined_row (rows_in x (all_rows changes)), range_tomb (all_pieces changes) x)

-- the greatest of the tombstones that cover the row of a key: of the partition, of ranges and of the row
abbrev pub row_cover : List Mutation → List Comp → Option Tomb
row_cover changes key = greatest tomb_cmp (partition_tombs changes ++ tombs_over (all_pieces changes) (row_pos key) ++ tombs (rows_at key (all_rows changes)))

-- two lists of writes say the same at each place
pub record SameSource (changes others : List Mutation) : Type 0 where
  pub head : source_at_head changes ≡ source_at_head others
  pub statics : source_at_static changes ≡ source_at_static others
  pub clustered : (x : Pos) → source_at changes x ≡ source_at others x

-- a mutation is what writes join to: at the head the greatest tombstone, the static rows as one, the rows by key, and at each position
-- the greatest range tombstone
pub record IsJoinOf (mutation : Mutation) (changes : List Mutation) : Type 0 where
  pub head : mutation.pt ≡ source_at_head changes
  pub statics : mutation.statics ≡ source_at_static changes
  pub rows : mutation.rows ≡ joined_rows (all_rows changes)
  pub ranges : (x : Pos) → range_tomb mutation.ranges x ≡ range_tomb (all_pieces changes) x

-- what holds of each mutation that the program has: its static row has cells alone, and they ascend; its rows are by key, its ranges canonical
pub record IsMutation (mutation : Mutation) : Type 0 where
  pub alone : IsTrue (has_cells_alone mutation.statics)
  pub statics : IsTrue (ascending mutation.statics.cells)
  pub rows : IsRows mutation.rows
  pub ranges : IsCanonical mutation.ranges
