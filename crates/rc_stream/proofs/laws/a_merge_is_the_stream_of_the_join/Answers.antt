-- The law is a lemma.
use Rattle.rc_stream.proofs.Joining.{merged-join}
use Rattle.rc_stream.proofs.laws.a_merge_is_the_stream_of_the_join.Goals as goal

pub returns : goal.returns
returns c = merged-join
