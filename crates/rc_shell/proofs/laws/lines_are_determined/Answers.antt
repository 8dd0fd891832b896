use Rattle.rc_shell.proofs.Cuts.{lines_are_determined_lem}
use Rattle.rc_shell.proofs.laws.lines_are_determined.Goals as goal

pub returns : goal.returns
returns c = lines_are_determined_lem
