use Rattle.rc_core.specs.laws.Keeping.{merged-continuous}
use Rattle.rc_core.proofs.laws.merging.a_merged_unit_keeps_continuity.Goals as goal

pub returns : goal.returns
returns c = merged-continuous
