-- The lines so far and those that are left are all of them.
use Rattle.std.proofs.Common.{◌≡◌, ◌++◌, length}
use Rattle.rc_opened.proofs.behind.copy_behind.Given as goal

abbrev pub invariant-loop-left : goal.invariant-loop-left
invariant-loop-left l = l.all.items ++ l.left ≡ l.initial.all.items ++ l.fn.lines

abbrev pub decreases-loop-left : goal.decreases-loop-left
decreases-loop-left l = length l.left
