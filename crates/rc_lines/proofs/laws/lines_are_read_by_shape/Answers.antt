-- The law is a lemma.
use Rattle.rc_lines.specs.laws.ByShape.{by_shape}
use Rattle.rc_lines.proofs.laws.lines_are_read_by_shape.Goals as goal

pub returns : goal.returns
returns c = by_shape
