use Rattle.rc_cell.specs.laws.{joined_row-push}
use Rattle.rc_cell.proofs.laws.join_of_one_more.Goals as goal

pub returns : goal.returns
returns c = joined_row-push
