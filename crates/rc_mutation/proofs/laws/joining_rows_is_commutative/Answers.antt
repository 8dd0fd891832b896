use Rattle.rc_mutation.specs.laws.JoinedRows.{joined_rows-swap}
use Rattle.rc_mutation.proofs.laws.joining_rows_is_commutative.Goals as goal

pub returns : goal.returns
returns c = joined_rows-swap
