use Rattle.rc_query.specs.laws.Answers.{answer-joined}
use Rattle.rc_query.proofs.laws.answer_of_joined_writes.Goals as goal

pub returns : goal.returns
returns c = answer-joined
