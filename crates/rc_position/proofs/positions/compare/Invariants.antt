use Rattle.std.proofs.Common.{◌≡◌, length}
use Rattle.rc_position.specs.Position.{prefix_cmp}
use Rattle.rc_position.proofs.positions.compare.Given as goal

-- what is left compares as the whole does
abbrev pub invariant-loop-xs : goal.invariant-loop-xs
invariant-loop-xs l = prefix_cmp l.fn.left l.fn.left_weight l.fn.right l.fn.right_weight ≡ prefix_cmp l.xs l.left_weight l.ys l.right_weight

abbrev pub decreases-loop-xs : goal.decreases-loop-xs
decreases-loop-xs l = length l.xs
