use Rattle.rc_core.specs.laws.Losing.{same_or_lost-through}
use Rattle.rc_core.proofs.laws.losing.a_lost_state_is_seen_as_unknown_or_not_at_all.Goals as goal

pub returns : goal.returns
returns c = same_or_lost-through
