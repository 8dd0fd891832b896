use Rattle.rc_folder.specs.laws.Fitting.{sealed_parts_fit}
use Rattle.rc_folder.proofs.laws.sealed_parts_fit.Goals as goal

pub returns : goal.returns
returns c = sealed_parts_fit
