use Rattle.rc_core.specs.laws.Merging.{alike-continuous}
use Rattle.rc_core.proofs.laws.merging.what_is_seen_alike_keeps_continuity.Goals as goal

pub returns : goal.returns
returns c = alike-continuous
