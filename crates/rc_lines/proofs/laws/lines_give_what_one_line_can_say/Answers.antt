-- The law is a lemma.
use Rattle.rc_lines.specs.laws.HeardLines.{commands_sayable}
use Rattle.rc_lines.proofs.laws.lines_give_what_one_line_can_say.Goals as goal

pub returns : goal.returns
returns c = commands_sayable
