use Rattle.rc_verdict.proofs.Verdicts.{not_damaged, not_other, one_damage, one_table, one_answer}
use Rattle.rc_verdict.proofs.laws.no_text_has_two_verdicts.Goals as goal

pub returns-clause-not_damaged : goal.returns-clause-not_damaged
returns-clause-not_damaged c = not_damaged

pub returns-clause-not_other : goal.returns-clause-not_other
returns-clause-not_other c = not_other

pub returns-clause-one_damage : goal.returns-clause-one_damage
returns-clause-one_damage c = one_damage

pub returns-clause-damaged_is_not_other : goal.returns-clause-damaged_is_not_other
returns-clause-damaged_is_not_other c = λ bytes schema off damage other. damage.same_schema other

pub returns-clause-one_table : goal.returns-clause-one_table
returns-clause-one_table c = one_table

pub returns-clause-one_answer : goal.returns-clause-one_answer
returns-clause-one_answer c = one_answer
