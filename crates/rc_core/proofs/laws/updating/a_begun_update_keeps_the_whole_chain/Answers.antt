use Rattle.rc_core.specs.laws.Updates.{begun-chain, begun-form}
use Rattle.rc_core.proofs.laws.updating.a_begun_update_keeps_the_whole_chain.Goals as goal

pub returns : goal.returns
returns c = record { chain = begun-chain; form = begun-form }
