-- The entries before the index have been made.
use Rattle.std.proofs.Common.{◌≡◌, map, take}
use Rattle.rc_units.specs.Clean.{entry_onto}
use Rattle.rc_units.proofs.clean.merge_first_entry.Given as goal

abbrev pub invariant-loop-entry : goal.invariant-loop-entry
invariant-loop-entry l = l.made.items ≡ map (entry_onto l.merged l.next) (take l.entry-index l.entry-items)
