use Rattle.rc_cell.specs.laws.{joined_row-twice}
use Rattle.rc_cell.proofs.laws.join_is_idempotent.Goals as goal

pub returns : goal.returns
returns c = joined_row-twice
