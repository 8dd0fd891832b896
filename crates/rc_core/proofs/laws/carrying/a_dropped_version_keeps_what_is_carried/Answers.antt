use Rattle.rc_core.specs.laws.Carrying.{dropped-carried}
use Rattle.rc_core.proofs.laws.carrying.a_dropped_version_keeps_what_is_carried.Goals as goal

pub returns : goal.returns
returns c = dropped-carried
