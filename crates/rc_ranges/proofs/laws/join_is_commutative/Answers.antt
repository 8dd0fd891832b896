use Rattle.rc_ranges.specs.laws.Determined.{join-comm}
use Rattle.rc_ranges.proofs.laws.join_is_commutative.Goals as goal

pub returns : goal.returns
returns c = join-comm
