use Rattle.rc_chain_bench.proofs.Kept.{new-partition}
use Rattle.rc_chain_bench.proofs.partition.new_partition.Goals as goal

pub returns : goal.returns
returns c = new-partition _ c.new_chain.new.self c.in_ok-id.id _ _ _ c.in_ok-id.ensures.made
