use Rattle.rc_cell.specs.laws.{joined_row-swap}
use Rattle.rc_cell.proofs.laws.join_is_commutative.Goals as goal

pub returns : goal.returns
returns c = joined_row-swap
