use Rattle.rc_memory.specs.laws.Dropped.{rule-fewer}
use Rattle.rc_memory.proofs.laws.a_dropped_version_renumbers_the_recency_list.Goals as goal

pub returns : goal.returns
returns c = λ m n id j k v there number is list h free below. rule-fewer m n id j k v there number is list h free below
