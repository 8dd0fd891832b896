-- The law is a lemma.
use Rattle.rc_lines.specs.laws.Plain.{plain_back}
use Rattle.rc_lines.proofs.laws.plain_commands_read_back.Goals as goal

pub returns : goal.returns
returns c = plain_back
