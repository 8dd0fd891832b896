-- What is made, with what is left of both merged, is both merged; what is left is shorter each time.
use Rattle.std.proofs.Common.{◌≡◌, ◌++◌, ◌+◌, length}
use Rattle.rc_cell.specs.laws.Merge.{merge}
use Rattle.rc_cell.proofs.columns.merged.Given as goal

abbrev pub invariant-loop-ours : goal.invariant-loop-ours
invariant-loop-ours l = l.made.items ++ merge l.ours l.theirs ≡ merge l.fn.ours l.fn.theirs

abbrev pub decreases-loop-ours : goal.decreases-loop-ours
decreases-loop-ours l = length l.ours + length l.theirs
