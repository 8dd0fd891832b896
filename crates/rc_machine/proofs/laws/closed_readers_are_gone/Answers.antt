use Rattle.rc_machine.proofs.Fixed.{closed_gone}
use Rattle.rc_machine.proofs.laws.closed_readers_are_gone.Goals as goal

pub returns : goal.returns
returns c = closed_gone
