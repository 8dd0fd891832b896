use Rattle.rc_core.specs.laws.Order.{change-is, split-is, join_row-is, fill_row-is, take_out-is, lose_last-is}
use Rattle.rc_core.proofs.laws.changes.each_change_leaves_a_version.Goals as goal

pub returns : goal.returns
returns c = record { stretch = change-is; split = split-is; joined = join_row-is; filled = fill_row-is; taken_out = take_out-is; end_dummy = lose_last-is }
