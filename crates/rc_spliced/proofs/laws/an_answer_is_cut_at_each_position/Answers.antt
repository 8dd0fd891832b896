use Rattle.rc_spliced.proofs.Answering.{answer-cut}
use Rattle.rc_spliced.proofs.laws.an_answer_is_cut_at_each_position.Goals as goal

pub returns : goal.returns
returns c = λ changes slice x. answer-cut x changes slice
