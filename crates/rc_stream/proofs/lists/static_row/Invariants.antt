-- What is left says the same as all; it is shorter each time.
use Rattle.std.proofs.Common.{◌≡◌, length}
use Rattle.rc_stream.specs.Stream.{static_of}
use Rattle.rc_stream.proofs.lists.static_row.Given as goal

abbrev pub invariant-loop-left : goal.invariant-loop-left
invariant-loop-left l = static_of l.left ≡ static_of l.fn.items

abbrev pub decreases-loop-left : goal.decreases-loop-left
decreases-loop-left l = length l.left
