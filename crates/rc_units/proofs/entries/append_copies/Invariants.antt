-- The entries before the index have been appended.
use Rattle.std.proofs.Common.{◌≡◌, ◌++◌, take}
use Rattle.rc_units.proofs.entries.append_copies.Given as goal

abbrev pub invariant-loop-entry : goal.invariant-loop-entry
invariant-loop-entry l = l.made.items ≡ l.initial.made.items ++ take l.entry-index l.entries
