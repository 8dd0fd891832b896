-- The rows of a partition by key: what a list of rows says of each key, picked from all of them.
use Rattle.std.specs.Prelude.{◌≢◌, All, IsTrue, List, map as list_map}
use Rattle.std.specs.Ordering.{eq_by_cmp}
use Rattle.std.specs.List.{filter}
use Rattle.std.specs.FinMap as map
use Rattle.std.specs.FinMap.{is_sorted}
use Rattle.rc_cell.specs.declared.rows.Row.{Row}
use Rattle.rc_cell.specs.Columns.{ascending}
use Rattle.rc_cell.specs.Winner.{empty_row, joined_row}
use Rattle.rc_position.specs.declared.comps.Comp.{Comp}
use Rattle.rc_position.specs.Position.{key_cmp}

-- the rows at a key
abbrev pub rows_at : List Comp → List (List Comp × Row) → List Row
rows_at key rows = list_map (λ e. e.1) (filter (λ e. eq_by_cmp key_cmp key e.0) rows)

-- the keys that occur, ascending, each once
abbrev pub keys : List (List Comp × Row) → List (List Comp)
keys rows = map.keys (map.from_entries {R = key_cmp} rows)

-- of each key that occurs its rows as one, by ascending key
unfoldable pub joined_rows : List (List Comp × Row) → List (List Comp × Row)
joined_rows rows = list_map (λ key. (key, joined_row (rows_at key rows))) (keys rows)

-- the keys strictly ascend; of each row something was written; and its cells strictly ascend by column
pub record IsRows (rows : List (List Comp × Row)) : Type 0 where
  pub ascend : IsTrue (is_sorted key_cmp rows)
  pub written : All (λ e. e.1 ≢ empty_row) rows
  pub by_column : All (λ e. IsTrue (ascending e.1.cells)) rows
