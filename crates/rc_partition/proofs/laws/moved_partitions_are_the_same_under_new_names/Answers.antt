use Rattle.rc_partition.specs.laws.Moved.{stands-renamed}
use Rattle.rc_partition.proofs.laws.moved_partitions_are_the_same_under_new_names.Goals as goal

pub returns : goal.returns
returns c = λ slots old new names partitions listed renamed well h. stands-renamed old new names renamed well slots partitions listed h
