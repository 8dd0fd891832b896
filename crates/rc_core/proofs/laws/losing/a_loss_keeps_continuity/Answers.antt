use Rattle.rc_core.specs.laws.Losing.{same_or_lost-continuous}
use Rattle.rc_core.proofs.laws.losing.a_loss_keeps_continuity.Goals as goal

pub returns : goal.returns
returns c = same_or_lost-continuous
