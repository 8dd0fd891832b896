use Rattle.rc_spliced.proofs.Parting.{from-part, short-part}
use Rattle.rc_spliced.proofs.laws.the_lines_on_each_side_are_those_of_a_part.Goals as goal

pub returns-clause-before : goal.returns-clause-before
returns-clause-before c = short-part

pub returns-clause-from : goal.returns-clause-from
returns-clause-from c = from-part
