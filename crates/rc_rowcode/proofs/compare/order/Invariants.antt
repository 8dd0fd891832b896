-- What is left compares as the whole does.
use Rattle.std.proofs.Common.{◌≡◌, length}
use Rattle.rc_position.specs.Position.{prefix_cmp}
use Rattle.rc_rowcode.specs.calls.Comparing.{seen_comps}
use Rattle.rc_rowcode.proofs.compare.order.Given as goal

abbrev pub invariant-loop-left_weight : goal.invariant-loop-left_weight
invariant-loop-left_weight l = prefix_cmp (seen_comps l.fn.left) l.fn.left_weight (seen_comps l.fn.right) l.fn.right_weight ≡ prefix_cmp (seen_comps l.xs) l.left_weight (seen_comps l.ys) l.right_weight

abbrev pub decreases-loop-left_weight : goal.decreases-loop-left_weight
decreases-loop-left_weight l = length (seen_comps l.xs)
