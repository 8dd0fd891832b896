use Rattle.rc_shell.proofs.Lined.{of_written}
use Rattle.rc_shell.proofs.laws.runs_answer_lines.Goals as goal

pub returns : goal.returns
returns c = λ words before after limit status left left2 written written2 input input2 output output2 r. of_written words before after limit left2 r.taken status r.text r.run
