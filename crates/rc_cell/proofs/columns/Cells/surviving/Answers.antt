-- What survives ascends.
use Rattle.rc_cell.specs.laws.Survivors.{ascending-surviving_cells}
use Rattle.rc_cell.proofs.columns.Cells.surviving.Goals as goal

pub invariant_of-result : goal.invariant_of-result
invariant_of-result c = rw (c.in_ok-items.ensures, c.as_slice.ensures.value) (ascending-surviving_cells c.args.tomb c.args.self.now c.as_slice.ensures.ascending)
