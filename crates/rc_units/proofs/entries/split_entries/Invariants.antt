-- What is made, with a split of what is left, is a split of all.
use Rattle.std.proofs.Common.{◌≡◌, ◌++◌, length}
use Rattle.rc_core.specs.Change.{gap_split}
use Rattle.rc_units.proofs.entries.split_entries.Given as goal

abbrev pub invariant-loop-left : goal.invariant-loop-left
invariant-loop-left l = l.made.items ++ gap_split l.at l.left ≡ gap_split l.at l.fn.entries

abbrev pub decreases-loop-left : goal.decreases-loop-left
decreases-loop-left l = length l.left
