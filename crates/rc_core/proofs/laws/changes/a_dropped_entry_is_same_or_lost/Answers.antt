use Rattle.rc_core.specs.Change.{lost_mark}
use Rattle.rc_core.specs.laws.Spots.{drop-seen, take_out-between, take_out-front, take_out-behind}
use Rattle.rc_core.proofs.laws.changes.a_dropped_entry_is_same_or_lost.Goals as goal

pub returns : goal.returns
returns c = record { each = drop-seen; lost = take_out-between lost_mark; before = take_out-front lost_mark; behind = take_out-behind lost_mark }
