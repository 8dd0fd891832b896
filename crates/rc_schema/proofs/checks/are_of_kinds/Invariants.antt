use Rattle.std.proofs.Common.{◌≡◌, length}
use Rattle.rc_schema.specs.Checks.{are_of_kinds}
use Rattle.rc_schema.proofs.checks.are_of_kinds.Given as goal

-- what is left decides for the whole
abbrev pub invariant-loop-components : goal.invariant-loop-components
invariant-loop-components l = are_of_kinds l.fn.key l.fn.kinds ≡ are_of_kinds l.components l.left

abbrev pub decreases-loop-components : goal.decreases-loop-components
decreases-loop-components l = length l.components
