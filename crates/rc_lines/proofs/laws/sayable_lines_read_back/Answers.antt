-- The law is a lemma.
use Rattle.rc_lines.specs.laws.Sayable.{shape_back}
use Rattle.rc_lines.proofs.laws.sayable_lines_read_back.Goals as goal

pub returns : goal.returns
returns c = shape_back
