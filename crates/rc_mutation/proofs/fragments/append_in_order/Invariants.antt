-- What is made, with what is left of both merged, is what was there with both merged; what is left is shorter each time.
use Rattle.std.proofs.Common.{◌≡◌, ◌++◌, ◌+◌, length, map}
use Rattle.rc_mutation.specs.laws.FragMerge.{merge, fragment_of}
use Rattle.rc_mutation.proofs.fragments.append_in_order.Given as goal

abbrev pub invariant-loop-rows : goal.invariant-loop-rows
invariant-loop-rows l = l.made.items ++ map fragment_of (merge l.rows l.changes) ≡ l.initial.made.items ++ map fragment_of (merge l.fn.rows l.fn.changes)

abbrev pub decreases-loop-rows : goal.decreases-loop-rows
decreases-loop-rows l = length l.rows + length l.changes
