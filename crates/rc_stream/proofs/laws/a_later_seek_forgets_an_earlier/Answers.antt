-- The law is a lemma.
use Rattle.rc_stream.proofs.Seeking.{sought-sought}
use Rattle.rc_stream.proofs.laws.a_later_seek_forgets_an_earlier.Goals as goal

pub returns : goal.returns
returns c = λ s x y. sought-sought x y s
