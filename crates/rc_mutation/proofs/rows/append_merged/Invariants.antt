-- What is made, with what is left of both merged, is what was there with both merged; what is left is shorter each time.
use Rattle.std.proofs.Common.{◌≡◌, ◌++◌, ◌+◌, length}
use Rattle.rc_mutation.proofs.RowsMerge.{merge}
use Rattle.rc_mutation.proofs.rows.append_merged.Given as goal

abbrev pub invariant-loop-ours : goal.invariant-loop-ours
invariant-loop-ours l = l.made.items ++ merge l.ours l.theirs ≡ l.initial.made.items ++ merge l.fn.ours l.fn.theirs

abbrev pub decreases-loop-ours : goal.decreases-loop-ours
decreases-loop-ours l = length l.ours + length l.theirs
