-- The version that was reached stands over the one that it began with.
use Rattle.rc_partition.proofs.Passing.{Climbs}
use Rattle.rc_partition.proofs.walks.root_over.Given as goal

abbrev pub invariant-loop-passed : goal.invariant-loop-passed
invariant-loop-passed g l = Climbs l.region l.fn.n l.at l._passed
