use Rattle.rc_core.specs.laws.Carrying.{phase-seen, phase-carried}
use Rattle.rc_core.specs.laws.Populating.{phase-form}
use Rattle.rc_core.proofs.laws.keeping.a_new_phase_changes_nothing_that_is_seen.Goals as goal

pub returns : goal.returns
returns c = record { seen = phase-seen; form = phase-form; carried = phase-carried }
