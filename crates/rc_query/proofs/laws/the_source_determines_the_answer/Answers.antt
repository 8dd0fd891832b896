-- The law is a lemma.
use Rattle.rc_query.specs.laws.SameAnswer.{answer-same}
use Rattle.rc_query.proofs.laws.the_source_determines_the_answer.Goals as goal

pub returns : goal.returns
returns c = λ changes others slice same. answer-same changes others same slice
