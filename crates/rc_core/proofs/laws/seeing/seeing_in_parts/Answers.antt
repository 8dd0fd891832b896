use Rattle.rc_core.specs.laws.Folding.{through-append}
use Rattle.rc_core.proofs.laws.seeing.seeing_in_parts.Goals as goal

pub returns : goal.returns
returns c = through-append
