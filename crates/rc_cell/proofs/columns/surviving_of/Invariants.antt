-- The pairs before the index that survive have been copied.
use Rattle.std.proofs.Common.{◌≡◌, take}
use Rattle.rc_cell.specs.Deletion.{surviving_cells}
use Rattle.rc_cell.proofs.columns.surviving_of.Given as goal

abbrev pub invariant-loop-item : goal.invariant-loop-item
invariant-loop-item l = l.made.items ≡ surviving_cells l.tomb (take l.item-index l.items)
