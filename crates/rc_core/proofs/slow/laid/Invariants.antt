-- What is seen so far, with what is left over it, is what is seen through all.
use Rattle.std.proofs.Common.{length, map}
use Rattle.rc_core.specs.SpotState.{through, under}
use Rattle.rc_core.specs.Chain.{states_at}
use Rattle.rc_core.specs.Merge.{Alike}
use Rattle.rc_core.specs.Slow.{plain, seen_state, spot_at}
use Rattle.rc_core.proofs.slow.laid.Given as goal

abbrev pub invariant-loop-left : goal.invariant-loop-left
invariant-loop-left l = Alike (under (seen_state l.seen) (through (states_at (spot_at l.side l.x) (map plain l.left)))) (through (states_at (spot_at l.side l.x) (map plain l.versions)))

abbrev pub decreases-loop-left : goal.decreases-loop-left
decreases-loop-left l = length l.left
