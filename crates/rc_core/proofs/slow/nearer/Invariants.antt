-- Whatever is nearest by the entries left is nearest by all.
use Rattle.std.proofs.Common.{length}
use Rattle.rc_core.proofs.Reaching.{Nearest}
use Rattle.rc_core.proofs.slow.nearer.Given as goal

abbrev pub invariant-loop-left : goal.invariant-loop-left
invariant-loop-left l = Nearest l.x l.to l.fn.to l.left l.entries

abbrev pub decreases-loop-left : goal.decreases-loop-left
decreases-loop-left l = length l.left
