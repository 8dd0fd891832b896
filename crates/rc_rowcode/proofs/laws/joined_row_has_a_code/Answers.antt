-- Each part of the joined row is one of the two rows' parts.
use Rattle.rc_rowcode.proofs.Joins.{joined_coded}
use Rattle.rc_rowcode.proofs.laws.joined_row_has_a_code.Goals as goal

pub returns : goal.returns
returns c = λ r q f g. joined_coded r q f g
