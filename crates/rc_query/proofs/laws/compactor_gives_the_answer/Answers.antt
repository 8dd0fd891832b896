use Rattle.rc_query.specs.laws.Compacting.{compacted-answer, compacted-slice}
use Rattle.rc_query.proofs.laws.compactor_gives_the_answer.Goals as goal

pub returns : goal.returns
returns c = record { whole = compacted-answer; slice = compacted-slice }
