use Rattle.rc_partition.specs.laws.Whole.{nothing-else, all-counted}
use Rattle.rc_partition.proofs.laws.nothing_else_is_there.Goals as goal

pub returns-clause-each : goal.returns-clause-each
returns-clause-each c = λ slots v partitions listed r well summed h live. nothing-else slots v partitions listed well summed h r live

pub returns-clause-counted : goal.returns-clause-counted
returns-clause-counted c = λ slots v partitions listed well summed h. all-counted slots v partitions listed well summed h
