-- The law is a lemma.
use Rattle.rc_query.specs.laws.Cuts.{lines-cut, lines-rest}
use Rattle.rc_query.proofs.laws.row_lines_are_cut_at_a_position.Goals as goal

pub returns : goal.returns
returns c = record { both = lines-cut; rest = lines-rest }
