use Rattle.rc_shell.proofs.Asked.{asked_of_run}
use Rattle.rc_shell.proofs.laws.asks_are_bounded.Goals as goal

pub returns : goal.returns
returns c = asked_of_run
