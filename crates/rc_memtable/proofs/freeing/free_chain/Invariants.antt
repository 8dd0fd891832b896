-- The chain is there with fewer objects, or it is gone.
use Rattle.rc_memory.specs.Memory.{chain_at}
use Rattle.rc_memtable.proofs.Freed.{IsFreeing, objects_left}
use Rattle.rc_memtable.proofs.freeing.free_chain.Given as goal

abbrev pub invariant-loop-chains : goal.invariant-loop-chains
invariant-loop-chains g l = IsFreeing l.id l.fn.chains l.chains

abbrev pub decreases-loop-chains : goal.decreases-loop-chains
decreases-loop-chains g l = objects_left (chain_at l.chains l.id)
