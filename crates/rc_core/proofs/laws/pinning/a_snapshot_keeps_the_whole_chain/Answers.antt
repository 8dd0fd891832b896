use Rattle.rc_core.specs.laws.Updates.{snapshot-chain, snapshot-form}
use Rattle.rc_core.proofs.laws.pinning.a_snapshot_keeps_the_whole_chain.Goals as goal

pub returns : goal.returns
returns c = record { chain = snapshot-chain; form = snapshot-form }
