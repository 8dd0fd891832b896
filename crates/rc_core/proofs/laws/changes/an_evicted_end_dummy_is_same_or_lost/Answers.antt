use Rattle.rc_core.specs.laws.Spots.{lose_last-seen}
use Rattle.rc_core.proofs.laws.changes.an_evicted_end_dummy_is_same_or_lost.Goals as goal

pub returns : goal.returns
returns c = lose_last-seen
