use Rattle.rc_core.specs.laws.Keeping.{evicted-chain}
use Rattle.rc_core.proofs.laws.losing.an_eviction_keeps_the_whole_chain.Goals as goal

pub returns : goal.returns
returns c = evicted-chain
