use Rattle.rc_machine.specs.laws.FittingParts.{parts_fit}
use Rattle.rc_machine.proofs.fitting.parts_of_fitting_writes_fit.Goals as goal

pub returns : goal.returns
returns c = parts_fit
