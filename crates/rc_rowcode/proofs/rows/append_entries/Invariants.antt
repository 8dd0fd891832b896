-- What is appended, with the code of what is left, is all of the code, and there is room for the rest.
use Rattle.std.proofs.Common.{◌≡◌, ◌≤◌, ◌+◌, ◌++◌, length}
use Rattle.std.specs.List.{flat_map, AllByRecursion}
use Rattle.std.specs.Vec.{vec_capacity}
use Rattle.rc_rowcode.specs.Spelling.{entry_code, EntryFits}
use Rattle.rc_rowcode.proofs.rows.append_entries.Given as goal

abbrev pub invariant-loop-left : goal.invariant-loop-left
invariant-loop-left l = record {
  fits : AllByRecursion EntryFits l.left;
  appended : l.out.items ++ flat_map entry_code l.left ≡ l.initial.out.items ++ flat_map entry_code l.cells;
  enough : length l.out.items + length (flat_map entry_code l.left) ≤ vec_capacity l.out;
  room : vec_capacity l.initial.out ≤ vec_capacity l.out;
}

abbrev pub decreases-loop-left : goal.decreases-loop-left
decreases-loop-left l = length l.left
