use Rattle.rc_mutation.specs.laws.JoinedRows.{joined_rows-append}
use Rattle.rc_mutation.proofs.laws.joining_rows_is_associative.Goals as goal

pub returns : goal.returns
returns c = joined_rows-append
