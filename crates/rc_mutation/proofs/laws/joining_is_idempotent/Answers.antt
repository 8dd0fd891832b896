use Rattle.rc_mutation.specs.laws.Sources.{join-same}
use Rattle.rc_mutation.proofs.laws.joining_is_idempotent.Goals as goal

pub returns : goal.returns
returns c = join-same
