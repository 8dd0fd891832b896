use Rattle.rc_units.proofs.Under.{found-alike}
use Rattle.rc_units.proofs.laws.cleaning.one_state_goes_under_another.Goals as goal

pub returns : goal.returns
returns c = found-alike
