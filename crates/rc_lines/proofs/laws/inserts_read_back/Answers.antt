-- The law is a lemma.
use Rattle.rc_lines.specs.laws.Users.{insert_back}
use Rattle.rc_lines.proofs.laws.inserts_read_back.Goals as goal

pub returns : goal.returns
returns c = insert_back
