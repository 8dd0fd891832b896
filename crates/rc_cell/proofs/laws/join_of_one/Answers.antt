use Rattle.rc_cell.specs.laws.{joined_row-one}
use Rattle.rc_cell.proofs.laws.join_of_one.Goals as goal

pub returns : goal.returns
returns c = joined_row-one
