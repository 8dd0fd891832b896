use Rattle.rc_core.specs.laws.Updates.{detached-chain, detached-form}
use Rattle.rc_core.proofs.laws.pinning.a_detached_chain_stays_continuous.Goals as goal

pub returns : goal.returns
returns c = record { chain = detached-chain; form = detached-form }
