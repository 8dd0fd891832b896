-- Wherever the gap ends by the versions left, it ends by all.
use Rattle.std.proofs.Common.{length, map}
use Rattle.rc_core.specs.Slow.{plain}
use Rattle.rc_core.proofs.Reaching.{Reaches}
use Rattle.rc_core.proofs.slow.reach.Given as goal

abbrev pub invariant-loop-left : goal.invariant-loop-left
invariant-loop-left l = Reaches l.x l.to l.upto (map plain l.left) (map plain l.versions)

abbrev pub decreases-loop-left : goal.decreases-loop-left
decreases-loop-left l = length l.left
