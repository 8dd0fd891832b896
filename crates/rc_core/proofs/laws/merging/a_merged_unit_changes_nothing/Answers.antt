use Rattle.rc_core.specs.laws.Merging.{merged-seen}
use Rattle.rc_core.proofs.laws.merging.a_merged_unit_changes_nothing.Goals as goal

pub returns : goal.returns
returns c = merged-seen
