use Rattle.rc_core.specs.laws.Filling.{gap-continuous}
use Rattle.rc_core.proofs.laws.filling.a_filled_gap_keeps_continuity.Goals as goal

pub returns : goal.returns
returns c = λ writes older v from to tomb i given k. gap-continuous writes older v i from to tomb given k
