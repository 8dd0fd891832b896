use Rattle.rc_cell.specs.laws.Each.{test_joined}
use Rattle.rc_cell.proofs.laws.join_adds_no_cell.Goals as goal

pub returns : goal.returns
returns c = test_joined
