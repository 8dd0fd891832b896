use Rattle.rc_core.proofs.Slowly.{nothing}
use Rattle.rc_core.proofs.slow.nothing_seen.Goals as goal

pub returns : goal.returns
returns c = nothing c.empty.result c.empty.ensures
