-- All come exactly where those that are left do.
use Rattle.std.proofs.Common.{length, None}
use Rattle.std.specs.Prelude.{◌↔◌}
use Rattle.rc_tables.specs.calls.Rebuilt.{AllCome}
use Rattle.rc_tables.proofs.decoding.all_come.Given as goal

abbrev pub invariant-loop-left : goal.invariant-loop-left
invariant-loop-left l = AllCome l.schema None None l.fn.frags ↔ AllCome l.schema l.tomb l.last l.left

abbrev pub decreases-loop-left : goal.decreases-loop-left
decreases-loop-left l = length l.left
