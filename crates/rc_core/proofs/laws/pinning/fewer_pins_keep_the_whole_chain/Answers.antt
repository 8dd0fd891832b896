use Rattle.rc_core.specs.laws.Updates.{fewer-pins, fewer-form}
use Rattle.rc_core.specs.laws.MemtableChains.{fewer-memtable}
use Rattle.rc_core.proofs.laws.pinning.fewer_pins_keep_the_whole_chain.Goals as goal

pub returns : goal.returns
returns c = record { chain = fewer-pins; form = fewer-form; memtable = fewer-memtable }
