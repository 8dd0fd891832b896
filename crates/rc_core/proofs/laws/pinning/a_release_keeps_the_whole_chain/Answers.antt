use Rattle.rc_core.specs.laws.Updates.{released-chain, released-form}
use Rattle.rc_core.proofs.laws.pinning.a_release_keeps_the_whole_chain.Goals as goal

pub returns : goal.returns
returns c = record { chain = released-chain; form = released-form }
