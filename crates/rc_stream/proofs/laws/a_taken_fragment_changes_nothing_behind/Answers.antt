-- The law is a lemma.
use Rattle.rc_stream.specs.laws.Says.{says-took}
use Rattle.rc_stream.proofs.laws.a_taken_fragment_changes_nothing_behind.Goals as goal

pub returns : goal.returns
returns c = says-took
