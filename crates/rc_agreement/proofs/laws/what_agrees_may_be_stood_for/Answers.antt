use Rattle.rc_agreement.proofs.Standing.{stands-now}
use Rattle.rc_agreement.proofs.laws.what_agrees_may_be_stood_for.Goals as goal

pub returns : goal.returns
returns c = stands-now
