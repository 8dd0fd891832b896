use Rattle.rc_core.specs.laws.Evicting.{entry-evicted-chain, end-evicted-chain, statics-evicted-chain}
use Rattle.rc_core.proofs.laws.losing.each_eviction_keeps_the_whole_chain.Goals as goal

pub returns : goal.returns
returns c = record { entry = entry-evicted-chain; end_dummy = end-evicted-chain; statics = statics-evicted-chain }
