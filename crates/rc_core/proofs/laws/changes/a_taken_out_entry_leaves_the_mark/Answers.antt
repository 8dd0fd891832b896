use Rattle.rc_core.specs.laws.Spots.{take_out-between, take_out-front, take_out-behind}
use Rattle.rc_core.proofs.laws.changes.a_taken_out_entry_leaves_the_mark.Goals as goal

pub returns : goal.returns
returns c = record { between = take_out-between; before = take_out-front; behind = take_out-behind }
