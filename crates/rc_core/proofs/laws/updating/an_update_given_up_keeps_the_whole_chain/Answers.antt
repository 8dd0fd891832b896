use Rattle.rc_core.specs.laws.Updates.{given-chain}
use Rattle.rc_core.proofs.laws.updating.an_update_given_up_keeps_the_whole_chain.Goals as goal

pub returns : goal.returns
returns c = given-chain
