use Rattle.rc_machine.proofs.OneAnswer.{one_answer}
use Rattle.rc_machine.proofs.laws.a_reader_gives_one_answer.Goals as goal

pub returns : goal.returns
returns c = one_answer
