-- What is counted, with what is left, is all.
use Rattle.std.proofs.Common.{◌≡◌, ◌+◌, length}
use Rattle.rc_rowcode.specs.calls.Joining.{merged_cells, AreSorted}
use Rattle.rc_rowcode.proofs.join.count_merged.Given as goal

abbrev pub invariant-loop-column : goal.invariant-loop-column
invariant-loop-column l = record {
  sorted : AreSorted l.left;
  counted : l.total + length (merged_cells l.left) ≡ length (merged_cells l.merge);
}

abbrev pub decreases-loop-column : goal.decreases-loop-column
decreases-loop-column l = length (merged_cells l.left)
