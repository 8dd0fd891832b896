-- The law is a lemma.
use Rattle.rc_stream.proofs.MergeLaws.{determined-stream}
use Rattle.rc_stream.proofs.laws.a_canonical_stream_is_determined.Goals as goal

pub returns : goal.returns
returns c = determined-stream
