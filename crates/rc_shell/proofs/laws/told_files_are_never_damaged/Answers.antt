use Rattle.rc_shell.specs.Step.{start_moment}
use Rattle.rc_shell.proofs.Undamaged.{undamaged}
use Rattle.rc_shell.proofs.laws.told_files_are_never_damaged.Goals as goal

pub returns : goal.returns
returns c = λ words before after status taken written files l told. undamaged (start_moment words before) l.end l.lines l.texts (files, told) l.answered
