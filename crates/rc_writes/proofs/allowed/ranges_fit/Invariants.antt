-- All fit exactly where those that are left do.
use Rattle.std.proofs.Common.{length}
use Rattle.std.specs.Prelude.{◌↔◌, All}
use Rattle.rc_writes.specs.Allowed.{IsRangeBound}
use Rattle.rc_writes.proofs.allowed.ranges_fit.Given as goal

abbrev pub invariant-loop-left : goal.invariant-loop-left
invariant-loop-left l = All (λ q. IsRangeBound l.schema q.from × IsRangeBound l.schema q.to) l.ranges ↔ All (λ q. IsRangeBound l.schema q.from × IsRangeBound l.schema q.to) l.left

abbrev pub decreases-loop-left : goal.decreases-loop-left
decreases-loop-left l = length l.left
