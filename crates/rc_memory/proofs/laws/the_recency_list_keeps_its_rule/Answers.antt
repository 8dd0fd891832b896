use Rattle.rc_memory.specs.laws.Recent.{rule-pushed, rule-same, rule-taken, rule-touched}
use Rattle.rc_memory.proofs.laws.the_recency_list_keeps_its_rule.Goals as goal

pub returns-clause-same : goal.returns-clause-same
returns-clause-same c = λ m n is list h. rule-same m n is h list

pub returns-clause-pushed : goal.returns-clause-pushed
returns-clause-pushed c = λ m n w is list off may h. rule-pushed m n is h w list off may

pub returns-clause-taken : goal.returns-clause-taken
returns-clause-taken c = λ m n front w back is was list free h. rule-taken m n is h front w back was list free

pub returns-clause-touched : goal.returns-clause-touched
returns-clause-touched c = λ m n front w back is was list h. rule-touched m n is h front w back was list
