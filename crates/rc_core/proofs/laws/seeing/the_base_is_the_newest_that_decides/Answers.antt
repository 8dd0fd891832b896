use Rattle.rc_core.specs.laws.Folding.{base-found, base-newest, base-none}
use Rattle.rc_core.proofs.laws.seeing.the_base_is_the_newest_that_decides.Goals as goal

pub returns : goal.returns
returns c = record { found = base-found; newest = base-newest; none = base-none }
