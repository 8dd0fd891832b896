use Rattle.rc_core.specs.laws.Surgery.{front-below, back-above}
use Rattle.rc_core.proofs.laws.surgery.entries_ascend_around_each.Goals as goal

pub returns : goal.returns
returns c = record { front = front-below; back = back-above }
