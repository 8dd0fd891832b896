use Rattle.rc_partition.specs.laws.Same.{stands-once}
use Rattle.rc_partition.proofs.laws.what_stands_is_determined.Goals as goal

pub returns : goal.returns
returns c = λ slots v ps qs xs ys h k same. stands-once slots v ps qs xs ys h k same
