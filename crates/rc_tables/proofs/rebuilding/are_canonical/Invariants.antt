-- All are canonical exactly where those that are left are.
use Rattle.std.proofs.Common.{length}
use Rattle.std.specs.Prelude.{◌↔◌}
use Rattle.rc_ranges.specs.Cover.{IsCanonical}
use Rattle.rc_tables.proofs.rebuilding.are_canonical.Given as goal

abbrev pub invariant-loop-left : goal.invariant-loop-left
invariant-loop-left l = IsCanonical l.fn.pieces ↔ IsCanonical l.left

abbrev pub decreases-loop-left : goal.decreases-loop-left
decreases-loop-left l = length l.left
