use Rattle.rc_machine.proofs.Fixed.{fixed, fixed_after}
use Rattle.rc_machine.proofs.laws.readers_are_fixed.Goals as goal

pub returns : goal.returns
returns c = record { step = fixed; steps = fixed_after }
