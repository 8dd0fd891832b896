use Rattle.rc_memory.specs.laws.Rows.{fit-split}
use Rattle.rc_memory.specs.laws.Rules.{fit-fewer, fit-more, fit-none}
use Rattle.rc_memory.proofs.laws.rows_still_fit.Goals as goal

pub returns-clause-fewer : goal.returns-clause-fewer
returns-clause-fewer c = λ s vs ws within h. fit-fewer s vs ws within h

pub returns-clause-none : goal.returns-clause-none
returns-clause-none c = λ s. fit-none s

pub returns-clause-more : goal.returns-clause-more
returns-clause-more c = λ s vs flag pt phase room h. fit-more s vs flag pt phase room h

pub returns-clause-split : goal.returns-clause-split
returns-clause-split c = λ s j x vs fits h. fit-split s j x vs fits h
