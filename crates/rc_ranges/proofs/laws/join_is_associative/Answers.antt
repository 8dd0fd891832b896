use Rattle.rc_ranges.specs.laws.Determined.{join-assoc}
use Rattle.rc_ranges.proofs.laws.join_is_associative.Goals as goal

pub returns : goal.returns
returns c = join-assoc
