-- Reading gives back what was written.
use Rattle.rc_rowcode.specs.laws.Codecs.{pos_codec}
use Rattle.rc_rowcode.specs.laws.Read.{one_spelling}
use Rattle.rc_rowcode.proofs.laws.one_code_of_a_position.Goals as goal

pub returns : goal.returns
returns c = λ a b x y f g e. one_spelling pos_codec a b x y f g e
