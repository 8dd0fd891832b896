use Rattle.rc_core.specs.laws.Evicting.{seen-through}
use Rattle.rc_core.proofs.laws.placing.from_the_place_on_the_older_versions_are_seen.Goals as goal

pub returns : goal.returns
returns c = seen-through
