use Rattle.std.proofs.lemmas.Result.{IfOk-weaker}
use Rattle.rc_chain_tests.proofs.Bare.{number-fits}
use Rattle.rc_chain_tests.proofs.values.key_at.Goals as goal

pub returns : goal.returns
returns c = IfOk-weaker c.from_slice.result _ _ (number-fits _) c.from_slice.ensures
