use Rattle.rc_core.specs.laws.Updating.{carried}
use Rattle.rc_core.proofs.laws.updating.what_is_seen_alike_is_carried_as_before.Goals as goal

pub returns : goal.returns
returns c = carried
