use Rattle.rc_core.specs.laws.Updates.{ended-chain, ended-form}
use Rattle.rc_core.proofs.laws.updating.an_ended_update_keeps_the_whole_chain.Goals as goal

pub returns : goal.returns
returns c = record { chain = ended-chain; form = ended-form }
