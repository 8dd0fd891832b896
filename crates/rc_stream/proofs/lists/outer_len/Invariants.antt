-- What is left lies behind those passed, and has the body of all; it is shorter each time.
use Rattle.std.proofs.Common.{◌≡◌, ◌+◌, length, drop}
use Rattle.rc_stream.specs.Stream.{without_head}
use Rattle.rc_stream.proofs.lists.outer_len.Given as goal

abbrev pub invariant-loop-left : goal.invariant-loop-left
invariant-loop-left l = (l.passed + length l.left ≡ length l.fn.items) × (drop l.passed l.fn.items ≡ l.left) × (without_head l.left ≡ without_head l.fn.items)

abbrev pub decreases-loop-left : goal.decreases-loop-left
decreases-loop-left l = length l.left
