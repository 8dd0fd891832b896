use Rattle.rc_agreement.proofs.Known.{known-agrees}
use Rattle.rc_agreement.proofs.laws.what_is_known_agrees.Goals as goal

pub returns : goal.returns
returns c = known-agrees
