-- If each cell that is left is in range, each of all is.
use Rattle.std.proofs.Common.{length}
use Rattle.std.specs.List.{AllByRecursion}
use Rattle.rc_rowcode.specs.Spelling.{EntryFits, IsEntry}
use Rattle.rc_rowcode.proofs.widths.cells_in_range.Given as goal

abbrev pub invariant-loop-left : goal.invariant-loop-left
invariant-loop-left l = record {
  fits : AllByRecursion EntryFits l.left;
  settled : AllByRecursion IsEntry l.left → AllByRecursion IsEntry l.cells;
}

abbrev pub decreases-loop-left : goal.decreases-loop-left
decreases-loop-left l = length l.left
