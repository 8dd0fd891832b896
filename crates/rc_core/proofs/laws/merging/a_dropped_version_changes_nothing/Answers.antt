use Rattle.rc_core.specs.laws.Merging.{dropped-seen}
use Rattle.rc_core.proofs.laws.merging.a_dropped_version_changes_nothing.Goals as goal

pub returns : goal.returns
returns c = dropped-seen
