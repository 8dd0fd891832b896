-- What is left from the place on is what is left of all pieces; fewer are left each time.
use Rattle.std.proofs.Common.{◌≡◌, length}
use Rattle.rc_agreement.specs.calls.Passing.{onward_pieces}
use Rattle.rc_agreement.proofs.passing.onward_pieces.Given as goal

abbrev pub invariant-loop-left : goal.invariant-loop-left
invariant-loop-left l = onward_pieces l.x l.left ≡ onward_pieces l.x l.fn.pieces

abbrev pub decreases-loop-left : goal.decreases-loop-left
decreases-loop-left l = length l.left
