use Rattle.rc_core.specs.laws.Updating.{ended}
use Rattle.rc_core.proofs.laws.updating.an_update_ends_at_the_end.Goals as goal

pub returns : goal.returns
returns c = ended
