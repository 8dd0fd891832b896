-- The partition is there.
use Rattle.rc_chain_bench.specs.Partition.{IsPartition}
use Rattle.rc_chain_bench.proofs.works.join_again.Given as goal

abbrev pub invariant-loop-number : goal.invariant-loop-number
invariant-loop-number l = IsPartition l.chains l.id
