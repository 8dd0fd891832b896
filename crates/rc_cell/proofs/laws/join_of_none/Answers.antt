use Rattle.rc_cell.specs.laws.{joined_row-none}
use Rattle.rc_cell.proofs.laws.join_of_none.Goals as goal

pub returns : goal.returns
returns c = joined_row-none
