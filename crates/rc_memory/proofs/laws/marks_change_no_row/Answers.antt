use Rattle.rc_memory.specs.laws.Rows.{keeps-flags, keeps-head, keeps-marks, keeps-phase, keeps-static_flag, keeps-tombs}
use Rattle.rc_memory.proofs.laws.marks_change_no_row.Goals as goal

pub returns-clause-flags : goal.returns-clause-flags
returns-clause-flags c = λ x at gap. keeps-flags x at gap

pub returns-clause-tombs : goal.returns-clause-tombs
returns-clause-tombs c = λ x at gap. keeps-tombs x at gap

pub returns-clause-stretch : goal.returns-clause-stretch
returns-clause-stretch c = λ g from to. keeps-marks g from to

pub returns-clause-head : goal.returns-clause-head
returns-clause-head c = λ tomb. keeps-head tomb

pub returns-clause-static_flag : goal.returns-clause-static_flag
returns-clause-static_flag c = λ flag. keeps-static_flag flag

pub returns-clause-phase : goal.returns-clause-phase
returns-clause-phase c = λ phase. keeps-phase phase
