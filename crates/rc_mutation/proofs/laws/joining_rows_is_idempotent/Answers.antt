use Rattle.rc_mutation.specs.laws.JoinedRows.{joined_rows-twice}
use Rattle.rc_mutation.proofs.laws.joining_rows_is_idempotent.Goals as goal

pub returns : goal.returns
returns c = joined_rows-twice
