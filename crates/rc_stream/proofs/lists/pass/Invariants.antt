-- What is left lies behind those passed, and a seek makes of it what it makes of all; it is shorter each time.
use Rattle.std.proofs.Common.{◌≡◌, ◌+◌, length, drop}
use Rattle.rc_stream.specs.Stream.{clustered_front, force, onward}
use Rattle.rc_stream.proofs.lists.pass.Given as goal

abbrev pub invariant-loop-left : goal.invariant-loop-left
invariant-loop-left l =
    (l.passed + length l.left ≡ length l.fn.items) × (drop l.passed l.fn.items ≡ l.left)
    × (onward l.fn.to (clustered_front l.left) ≡ onward l.fn.to (clustered_front l.fn.items)) × (force l.fn.to l.tomb (clustered_front l.left) ≡ force l.fn.to l.fn.tomb (clustered_front l.fn.items))

abbrev pub decreases-loop-left : goal.decreases-loop-left
decreases-loop-left l = length l.left
