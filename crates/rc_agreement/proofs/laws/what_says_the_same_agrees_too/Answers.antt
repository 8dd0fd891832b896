use Rattle.rc_agreement.proofs.Known.{same-agrees-too}
use Rattle.rc_agreement.proofs.laws.what_says_the_same_agrees_too.Goals as goal

pub returns : goal.returns
returns c = same-agrees-too
