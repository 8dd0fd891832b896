use Rattle.rc_core.specs.laws.Folding.{under-below, under-above, under-grouping}
use Rattle.rc_core.proofs.laws.seeing.seeing_through_is_a_monoid.Goals as goal

pub returns : goal.returns
returns c = record { below = under-below; above = under-above; grouping = under-grouping }
