-- The law is a lemma.
use Rattle.rc_query.specs.laws.Life.{line-alive}
use Rattle.rc_query.proofs.laws.a_row_has_a_line_where_it_has_life.Goals as goal

pub returns : goal.returns
returns c = line-alive
