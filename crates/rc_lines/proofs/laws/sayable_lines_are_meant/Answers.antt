-- The law is a lemma.
use Rattle.rc_lines.specs.laws.Sayable.{meaning_back}
use Rattle.rc_lines.proofs.laws.sayable_lines_are_meant.Goals as goal

pub returns : goal.returns
returns c = meaning_back
