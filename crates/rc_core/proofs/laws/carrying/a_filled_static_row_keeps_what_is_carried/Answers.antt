use Rattle.rc_core.specs.laws.Carrying.{statics-carried}
use Rattle.rc_core.proofs.laws.carrying.a_filled_static_row_keeps_what_is_carried.Goals as goal

pub returns : goal.returns
returns c = statics-carried
