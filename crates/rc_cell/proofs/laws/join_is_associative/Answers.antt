use Rattle.rc_cell.specs.laws.{joined_row-append}
use Rattle.rc_cell.proofs.laws.join_is_associative.Goals as goal

pub returns : goal.returns
returns c = joined_row-append
