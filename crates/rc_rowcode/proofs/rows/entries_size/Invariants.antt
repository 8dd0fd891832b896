-- What is counted, with what is left, is all of the code.
use Rattle.std.proofs.Common.{◌≡◌, ◌+◌, length}
use Rattle.std.specs.List.{flat_map, AllByRecursion}
use Rattle.rc_rowcode.specs.Spelling.{entry_code, EntryFits}
use Rattle.rc_rowcode.proofs.rows.entries_size.Given as goal

abbrev pub invariant-loop-left : goal.invariant-loop-left
invariant-loop-left l = record {
  fits : AllByRecursion EntryFits l.left;
  counted : l.total + length (flat_map entry_code l.left) ≡ length (flat_map entry_code l.cells);
}

abbrev pub decreases-loop-left : goal.decreases-loop-left
decreases-loop-left l = length l.left
