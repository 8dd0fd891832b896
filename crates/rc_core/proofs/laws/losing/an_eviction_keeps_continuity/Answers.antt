use Rattle.rc_core.specs.laws.Losing.{evicted-continuous}
use Rattle.rc_core.proofs.laws.losing.an_eviction_keeps_continuity.Goals as goal

pub returns : goal.returns
returns c = evicted-continuous
