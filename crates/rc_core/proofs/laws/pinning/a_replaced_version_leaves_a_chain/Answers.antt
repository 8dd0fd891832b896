use Rattle.rc_core.specs.laws.Freeing.{replaced-form}
use Rattle.rc_core.proofs.laws.pinning.a_replaced_version_leaves_a_chain.Goals as goal

pub returns : goal.returns
returns c = replaced-form
