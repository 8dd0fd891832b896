use Rattle.rc_core.specs.laws.Updates.{more-chain, more-form}
use Rattle.rc_core.specs.laws.MemtableChains.{more-memtable}
use Rattle.rc_core.proofs.laws.pinning.one_more_pin_keeps_the_whole_chain.Goals as goal

pub returns : goal.returns
returns c = record { chain = more-chain; form = more-form; memtable = more-memtable }
