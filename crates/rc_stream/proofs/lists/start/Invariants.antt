-- What is left says the same as all; it is shorter each time.
use Rattle.std.proofs.Common.{◌≡◌, length}
use Rattle.rc_stream.specs.Stream.{start_of}
use Rattle.rc_stream.proofs.lists.start.Given as goal

abbrev pub invariant-loop-left : goal.invariant-loop-left
invariant-loop-left l = start_of l.left ≡ start_of l.fn.items

abbrev pub decreases-loop-left : goal.decreases-loop-left
decreases-loop-left l = length l.left
