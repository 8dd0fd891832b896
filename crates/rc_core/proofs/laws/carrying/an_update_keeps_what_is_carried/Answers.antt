use Rattle.rc_core.specs.laws.Carrying.{begun-carried, unit-carried, ended-carried}
use Rattle.rc_core.proofs.laws.carrying.an_update_keeps_what_is_carried.Goals as goal

pub returns : goal.returns
returns c = record { begin = begun-carried; unit = unit-carried; end = ended-carried }
