-- The greatest so far, with those of what is left.
use Rattle.std.proofs.Common.{◌≡◌, ◌++◌, length, map}
use Rattle.std.specs.Option.{option_to_list}
use Rattle.rc_cell.specs.Orders.{tomb_cmp}
use Rattle.rc_cell.specs.Winner.{greatest}
use Rattle.rc_core.specs.Continuity.{version_tombs}
use Rattle.rc_core.specs.Slow.{plain}
use Rattle.rc_core.proofs.slow.head_of.Given as goal

abbrev pub invariant-loop-left : goal.invariant-loop-left
invariant-loop-left l = greatest tomb_cmp (option_to_list l.pt ++ version_tombs (map plain l.left)) ≡ greatest tomb_cmp (version_tombs (map plain l.versions))

abbrev pub decreases-loop-left : goal.decreases-loop-left
decreases-loop-left l = length l.left
