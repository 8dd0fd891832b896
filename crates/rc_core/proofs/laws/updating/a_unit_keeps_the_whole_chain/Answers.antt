use Rattle.rc_core.specs.laws.Updates.{unit-chain}
use Rattle.rc_core.proofs.laws.updating.a_unit_keeps_the_whole_chain.Goals as goal

pub returns : goal.returns
returns c = unit-chain
