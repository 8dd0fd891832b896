-- Reading gives back what was written.
use Rattle.rc_rowcode.specs.laws.Codecs.{key_codec}
use Rattle.rc_rowcode.specs.laws.Read.{one_spelling}
use Rattle.rc_rowcode.proofs.laws.one_code_of_a_key.Goals as goal

pub returns : goal.returns
returns c = λ a b x y f g e. one_spelling key_codec a b x y f g e
