-- What writes say of the static row: cells alone, since the partition tombstone alone covers it.
use Rattle.std.specs.Prelude.{Bool, ◌&&◌}
use Rattle.std.specs.Option.{is_none}
use Rattle.rc_cell.specs.declared.rows.Row.{Row}

-- whether a row has cells alone: no marker and no tombstone
abbrev pub has_cells_alone : Row → Bool
has_cells_alone row = is_none row.marker && is_none row.tomb
