use Rattle.rc_mutation.specs.laws.Sources.{IsJoinOf-first}
use Rattle.rc_mutation.proofs.laws.a_first_part_may_be_joined_first.Goals as goal

pub returns : goal.returns
returns c = IsJoinOf-first
