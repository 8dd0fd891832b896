use Rattle.rc_core.specs.laws.Losing.{evicted-seen}
use Rattle.rc_core.proofs.laws.losing.an_eviction_is_seen_as_same_or_lost.Goals as goal

pub returns : goal.returns
returns c = evicted-seen
