use Rattle.std.proofs.Common.{◌↔◌, ◌≤◌, length}
use Rattle.std.specs.List.{AllByRecursion}
use Rattle.rc_rowcode.specs.Spelling.{CompFits}
use Rattle.rc_filler.proofs.limits.is_within_limits.Given as goal

abbrev pub invariant-loop-left : goal.invariant-loop-left
invariant-loop-left l = (length l.fn.key ≤ 4) × (AllByRecursion CompFits l.left ↔ AllByRecursion CompFits l.fn.key)

abbrev pub decreases-loop-left : goal.decreases-loop-left
decreases-loop-left l = length l.left
