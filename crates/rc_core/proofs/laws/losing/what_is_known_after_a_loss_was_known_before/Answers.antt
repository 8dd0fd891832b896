use Rattle.rc_core.specs.laws.Losing.{known-before}
use Rattle.rc_core.proofs.laws.losing.what_is_known_after_a_loss_was_known_before.Goals as goal

pub returns : goal.returns
returns c = known-before
