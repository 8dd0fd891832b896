-- The law is a lemma.
use Rattle.rc_lines.specs.laws.Users.{delpart_back}
use Rattle.rc_lines.proofs.laws.partition_deletes_read_back.Goals as goal

pub returns : goal.returns
returns c = delpart_back
