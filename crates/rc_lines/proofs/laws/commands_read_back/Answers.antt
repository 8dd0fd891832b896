-- The law is a lemma.
use Rattle.rc_lines.specs.laws.Lines.{command_back}
use Rattle.rc_lines.proofs.laws.commands_read_back.Goals as goal

pub returns : goal.returns
returns c = command_back
