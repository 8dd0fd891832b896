use Rattle.rc_cell.specs.laws.ByColumn.{holds}
use Rattle.rc_mutation.specs.laws.ByKey.{sorted-joined_rows, find-joined_rows}
use Rattle.rc_mutation.proofs.laws.joined_rows_by_key.Goals as goal

pub returns : goal.returns
returns c = record { ascend = λ rows. holds _ (sorted-joined_rows rows); by_key = λ rows key. find-joined_rows key rows }
