use Rattle.rc_spliced.proofs.GoingOn.{goes-before, goes-from, goes-on}
use Rattle.rc_spliced.proofs.laws.an_answer_goes_on.Goals as goal

pub returns-clause-before : goal.returns-clause-before
returns-clause-before c = λ x first second spliced writes slice is. goes-before x first second spliced writes is slice

pub returns-clause-from : goal.returns-clause-from
returns-clause-from c = λ x first second spliced writes slice is. goes-from x first second spliced writes is slice

pub returns-clause-whole : goal.returns-clause-whole
returns-clause-whole c = λ x first second spliced writes slice is. goes-on x first second spliced writes is slice
