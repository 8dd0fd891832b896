use Rattle.rc_memory.specs.laws.Recent.{rule-version}
use Rattle.rc_memory.proofs.laws.a_version_may_change_under_the_recency_list.Goals as goal

pub returns : goal.returns
returns c = λ m n id j f k v there number is once fewer more may must h. rule-version m n id j f k v there number is h once fewer more may must
