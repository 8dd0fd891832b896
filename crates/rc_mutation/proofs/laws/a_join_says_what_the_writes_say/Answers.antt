use Rattle.rc_mutation.specs.laws.Sources.{IsJoinOf-source}
use Rattle.rc_mutation.proofs.laws.a_join_says_what_the_writes_say.Goals as goal

pub returns : goal.returns
returns c = IsJoinOf-source
