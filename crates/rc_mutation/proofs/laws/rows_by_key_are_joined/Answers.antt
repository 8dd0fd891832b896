use Rattle.rc_mutation.specs.laws.JoinedRows.{joined_rows-rows}
use Rattle.rc_mutation.proofs.laws.rows_by_key_are_joined.Goals as goal

pub returns : goal.returns
returns c = joined_rows-rows
