use Rattle.rc_core.specs.laws.Keeping.{dropped-continuous}
use Rattle.rc_core.proofs.laws.merging.a_dropped_version_keeps_continuity.Goals as goal

pub returns : goal.returns
returns c = dropped-continuous
