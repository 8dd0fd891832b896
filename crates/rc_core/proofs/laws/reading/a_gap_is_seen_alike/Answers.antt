use Rattle.rc_core.proofs.Parting.{gap-seen}
use Rattle.rc_core.proofs.laws.reading.a_gap_is_seen_alike.Goals as goal

pub returns : goal.returns
returns c = gap-seen
