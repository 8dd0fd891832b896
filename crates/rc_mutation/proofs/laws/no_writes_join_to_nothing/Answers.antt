use Rattle.rc_mutation.specs.laws.Sources.{IsJoinOf-none}
use Rattle.rc_mutation.proofs.laws.no_writes_join_to_nothing.Goals as goal

pub returns : goal.returns
returns c = IsJoinOf-none
