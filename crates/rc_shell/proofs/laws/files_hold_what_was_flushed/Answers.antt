use Rattle.rc_shell.proofs.Flushing.{files_hold}
use Rattle.rc_shell.proofs.laws.files_hold_what_was_flushed.Goals as goal

pub returns : goal.returns
returns c = files_hold
