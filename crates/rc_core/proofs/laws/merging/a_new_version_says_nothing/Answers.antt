use Rattle.rc_core.specs.laws.Merging.{new-silent}
use Rattle.rc_core.proofs.laws.merging.a_new_version_says_nothing.Goals as goal

pub returns : goal.returns
returns c = new-silent
