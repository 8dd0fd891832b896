use Rattle.rc_shell.proofs.Telling.{told_within}
use Rattle.rc_shell.proofs.laws.figures_are_within_bounds.Goals as goal

pub returns : goal.returns
returns c = told_within
