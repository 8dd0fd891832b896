use Rattle.rc_core.specs.laws.Carrying.{row-carried, row-filled-carried}
use Rattle.rc_core.proofs.laws.carrying.a_filled_row_is_carried.Goals as goal

pub returns : goal.returns
returns c = record { filled = row-filled-carried; kept = row-carried }
