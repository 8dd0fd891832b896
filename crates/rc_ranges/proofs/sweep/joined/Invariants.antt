use Rattle.std.proofs.Common.{◌+◌}
use Rattle.rc_ranges.specs.calls.Sweep.{bounds_left}
use Rattle.rc_ranges.proofs.Sweeping.{IsSwept}
use Rattle.rc_ranges.proofs.sweep.joined.Given as goal

abbrev pub invariant-loop-next : goal.invariant-loop-next
invariant-loop-next l = IsSwept l.fn.ours l.fn.theirs l.made.items l.xs l.ys l.mark

abbrev pub decreases-loop-next : goal.decreases-loop-next
decreases-loop-next l = bounds_left l.xs l.mark + bounds_left l.ys l.mark
