use Rattle.rc_spliced.proofs.Answering.{before-same, from-same}
use Rattle.rc_spliced.proofs.laws.the_source_determines_the_lines_on_each_side.Goals as goal

pub returns-clause-before : goal.returns-clause-before
returns-clause-before c = λ changes others slice x. before-same x changes others slice

pub returns-clause-from : goal.returns-clause-from
returns-clause-from c = λ changes others slice x. from-same x changes others slice
