-- If each component that is left is in range, each of all is.
use Rattle.std.proofs.Common.{length}
use Rattle.std.specs.List.{AllByRecursion}
use Rattle.rc_rowcode.specs.Spelling.{CompFits, IsComp}
use Rattle.rc_rowcode.proofs.widths.comps_in_range.Given as goal

abbrev pub invariant-loop-left : goal.invariant-loop-left
invariant-loop-left l = record {
  fits : AllByRecursion CompFits l.left;
  settled : AllByRecursion IsComp l.left → AllByRecursion IsComp l.comps;
}

abbrev pub decreases-loop-left : goal.decreases-loop-left
decreases-loop-left l = length l.left
