-- The winners ascend by column.
use Rattle.rc_cell.specs.laws.ByColumn.{ascending-winners}
use Rattle.rc_cell.proofs.columns.Cells.joined.Goals as goal

pub invariant_of-result : goal.invariant_of-result
invariant_of-result c = rw c.in_ok-items.ensures (ascending-winners _)
