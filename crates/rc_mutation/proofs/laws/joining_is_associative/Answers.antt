use Rattle.rc_mutation.specs.laws.Sources.{join-assoc}
use Rattle.rc_mutation.proofs.laws.joining_is_associative.Goals as goal

pub returns : goal.returns
returns c = join-assoc
