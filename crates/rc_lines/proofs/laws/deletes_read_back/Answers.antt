-- The law is a lemma.
use Rattle.rc_lines.specs.laws.Users.{delete_back}
use Rattle.rc_lines.proofs.laws.deletes_read_back.Goals as goal

pub returns : goal.returns
returns c = delete_back
