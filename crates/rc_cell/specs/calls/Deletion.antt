-- What a tombstone leaves of one cell.
use Rattle.std.specs.Prelude.{Option, Some, None, if◌then◌else◌}
use Rattle.rc_cell.specs.declared.writes.Cell.{Cell}
use Rattle.rc_cell.specs.declared.writes.Tomb.{Tomb}
use Rattle.rc_cell.specs.Orders.{timestamp_of}
use Rattle.rc_cell.specs.Deletion.{survives}

-- the cell, where it is there and the tombstone does not delete it
abbrev pub surviving_cell : Option Tomb → Option Cell → Option Cell
surviving_cell tomb None = None
surviving_cell tomb (Some cell) = if survives tomb (timestamp_of cell) then Some cell else None
