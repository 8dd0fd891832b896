-- The law is a lemma.
use Rattle.rc_stream.specs.laws.Says.{says-sought}
use Rattle.rc_stream.proofs.laws.a_seek_changes_nothing_from_there_on.Goals as goal

pub returns : goal.returns
returns c = says-sought
