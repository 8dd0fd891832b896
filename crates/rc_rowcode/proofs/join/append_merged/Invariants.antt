-- What is appended, with the codes of what is left, is all of them, and there is room for the rest.
use Rattle.std.proofs.Common.{◌≡◌, ◌≤◌, ◌+◌, ◌++◌, length}
use Rattle.std.specs.List.{flat_map}
use Rattle.std.specs.Vec.{vec_capacity}
use Rattle.rc_rowcode.specs.Spelling.{entry_code}
use Rattle.rc_rowcode.specs.calls.Joining.{merged_cells, AreSorted}
use Rattle.rc_rowcode.proofs.join.append_merged.Given as goal

abbrev pub invariant-loop-column : goal.invariant-loop-column
invariant-loop-column l = record {
  sorted : AreSorted l.left;
  appended : l.out.items ++ flat_map entry_code (merged_cells l.left) ≡ l.initial.out.items ++ flat_map entry_code (merged_cells l.merge);
  enough : length l.out.items + length (flat_map entry_code (merged_cells l.left)) ≤ vec_capacity l.out;
  room : vec_capacity l.initial.out ≤ vec_capacity l.out;
}

abbrev pub decreases-loop-column : goal.decreases-loop-column
decreases-loop-column l = length (merged_cells l.left)
