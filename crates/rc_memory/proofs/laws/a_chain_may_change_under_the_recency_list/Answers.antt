use Rattle.rc_memory.specs.laws.Recent.{rule-alike, rule-gone, rule-more, rule-new, rule-uncached}
use Rattle.rc_memory.proofs.laws.a_chain_may_change_under_the_recency_list.Goals as goal

pub returns-clause-alike : goal.returns-clause-alike
returns-clause-alike c = λ m n id g is list alike h. rule-alike m n id g is list h alike

pub returns-clause-more : goal.returns-clause-more
returns-clause-more c = λ m n id g flag pt phase is list made h. rule-more m n id g is list h flag pt phase made

pub returns-clause-made : goal.returns-clause-made
returns-clause-made c = λ m n id k flag pt phase is list none made h. rule-new m n id list h k flag pt phase is none made

pub returns-clause-gone : goal.returns-clause-gone
returns-clause-gone c = λ m n id is list free h. rule-gone m n id list h is free

pub returns-clause-uncached : goal.returns-clause-uncached
returns-clause-uncached c = λ m n id g is list beside h. rule-uncached m n id g is list h beside
