-- The chains up to the last one are counted.
use Rattle.std.proofs.Common.{◌-◌, length}
use Rattle.rc_census.proofs.Counted.{AreCountedBelow, first_after}
use Rattle.rc_census.proofs.counting.census.Given as goal

abbrev pub invariant-loop-id : goal.invariant-loop-id
invariant-loop-id g l = AreCountedBelow l.chains (first_after l.after) l.census

abbrev pub decreases-loop-id : goal.decreases-loop-id
decreases-loop-id g l = length l.chains.chains - first_after l.after
