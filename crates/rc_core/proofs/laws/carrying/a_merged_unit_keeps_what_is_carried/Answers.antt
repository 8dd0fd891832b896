use Rattle.rc_core.specs.laws.Carrying.{merged-carried}
use Rattle.rc_core.proofs.laws.carrying.a_merged_unit_keeps_what_is_carried.Goals as goal

pub returns : goal.returns
returns c = merged-carried
