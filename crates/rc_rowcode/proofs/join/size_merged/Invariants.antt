-- What is counted, with what is left, is all of the codes.
use Rattle.std.proofs.Common.{◌≡◌, ◌+◌, length}
use Rattle.std.specs.List.{flat_map}
use Rattle.rc_rowcode.specs.Spelling.{entry_code}
use Rattle.rc_rowcode.specs.calls.Joining.{merged_cells, AreSorted}
use Rattle.rc_rowcode.proofs.join.size_merged.Given as goal

abbrev pub invariant-loop-column : goal.invariant-loop-column
invariant-loop-column l = record {
  sorted : AreSorted l.left;
  counted : l.total + length (flat_map entry_code (merged_cells l.left)) ≡ length (flat_map entry_code (merged_cells l.merge));
}

abbrev pub decreases-loop-column : goal.decreases-loop-column
decreases-loop-column l = length (merged_cells l.left)
