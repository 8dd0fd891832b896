use Rattle.rc_shell.proofs.Held.{pushed_answer}
use Rattle.rc_shell.proofs.session.push_answer.Goals as goal

pub returns-in-Some : goal.returns-in-Some
returns-in-Some g c = rw (c.in-Some.is, c.stop_by.ensures) (pushed_answer c.in-Some.ending _ _ _ _ c.args.text.now c.push_text-pushed.result c.push_text-pushed.ensures)
