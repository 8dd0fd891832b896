use Rattle.rc_mutation.specs.laws.Sources.{join-comm}
use Rattle.rc_mutation.proofs.laws.joining_is_commutative.Goals as goal

pub returns : goal.returns
returns c = join-comm
