use Rattle.rc_ranges.specs.laws.Covering.{cover-append}
use Rattle.rc_ranges.proofs.laws.pieces_together_have_the_greater.Goals as goal

pub returns : goal.returns
returns c = cover-append
