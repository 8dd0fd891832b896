-- The law is a lemma.
use Rattle.rc_stream.proofs.Seeking.{sought-merged}
use Rattle.rc_stream.proofs.laws.a_merge_is_sought_in_both.Goals as goal

pub returns : goal.returns
returns c = λ s t x. sought-merged x s t
