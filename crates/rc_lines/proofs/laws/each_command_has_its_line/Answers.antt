-- The law is a lemma.
use Rattle.rc_lines.specs.laws.HeardLines.{each_has_its_line}
use Rattle.rc_lines.proofs.laws.each_command_has_its_line.Goals as goal

pub returns : goal.returns
returns c = each_has_its_line
