use Rattle.rc_memory.specs.laws.One.{one-memory}
use Rattle.rc_memory.proofs.laws.they_hold_one_memory.Goals as goal

pub returns : goal.returns
returns c = λ slots v registry counts m n a b. one-memory slots v registry counts m n a b
