use Rattle.rc_core.specs.laws.GivenUp.{given-continuous}
use Rattle.rc_core.proofs.laws.updating.a_version_given_up_keeps_continuity.Goals as goal

pub returns : goal.returns
returns c = given-continuous
