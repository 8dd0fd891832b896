use Rattle.rc_core.specs.laws.Placed.{new-at-place}
use Rattle.rc_core.proofs.laws.placing.a_new_version_stands_at_the_head.Goals as goal

pub returns : goal.returns
returns c = new-at-place
