use Rattle.rc_spliced.proofs.Behind.{behind-bounds, behind-cut}
use Rattle.rc_spliced.proofs.laws.an_answer_is_cut_behind_each_line.Goals as goal

pub returns-clause-bound : goal.returns-clause-bound
returns-clause-bound c = λ schema changes slice given rest key shown. behind-bounds schema changes slice key shown given rest

pub returns-clause-cut : goal.returns-clause-cut
returns-clause-cut c = λ schema changes slice given rest key shown. behind-cut schema changes slice key shown given rest
