use Rattle.rc_core.specs.laws.Updating.{relabelled}
use Rattle.rc_core.proofs.laws.updating.a_phase_of_the_same_source_keeps_continuity.Goals as goal

pub returns : goal.returns
returns c = relabelled
