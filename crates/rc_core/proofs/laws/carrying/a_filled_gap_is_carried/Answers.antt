use Rattle.rc_core.specs.laws.Carrying.{gap-carried, gap-filled-carried}
use Rattle.rc_core.proofs.laws.carrying.a_filled_gap_is_carried.Goals as goal

pub returns : goal.returns
returns c = record { filled = gap-filled-carried; kept = gap-carried }
