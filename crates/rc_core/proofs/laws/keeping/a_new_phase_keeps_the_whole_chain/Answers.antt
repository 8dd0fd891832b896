use Rattle.rc_core.specs.laws.Populating.{relabelled-chain}
use Rattle.rc_core.proofs.laws.keeping.a_new_phase_keeps_the_whole_chain.Goals as goal

pub returns : goal.returns
returns c = relabelled-chain
