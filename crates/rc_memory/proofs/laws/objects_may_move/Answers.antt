use Rattle.rc_memory.specs.laws.Moved.{held-moved}
use Rattle.rc_memory.proofs.laws.objects_may_move.Goals as goal

pub returns : goal.returns
returns c = λ slots old new registry counts m names h renamed well. held-moved slots old new registry counts m names h renamed well
