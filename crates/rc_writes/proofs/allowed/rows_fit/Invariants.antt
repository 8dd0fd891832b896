-- All fit exactly where those that are left do.
use Rattle.std.proofs.Common.{length}
use Rattle.std.specs.Prelude.{◌↔◌, All}
use Rattle.rc_writes.specs.Allowed.{IsRowOf}
use Rattle.rc_writes.proofs.allowed.rows_fit.Given as goal

abbrev pub invariant-loop-left : goal.invariant-loop-left
invariant-loop-left l = All (λ e. IsRowOf l.schema e.0 e.1) l.rows ↔ All (λ e. IsRowOf l.schema e.0 e.1) l.left

abbrev pub decreases-loop-left : goal.decreases-loop-left
decreases-loop-left l = length l.left
