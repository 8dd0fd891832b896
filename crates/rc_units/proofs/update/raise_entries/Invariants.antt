-- The entries before the index have been made.
use Rattle.std.proofs.Common.{◌≡◌, map, take}
use Rattle.rc_core.specs.Change.{entry_changed, raised_mark}
use Rattle.rc_units.proofs.update.raise_entries.Given as goal

abbrev pub invariant-loop-entry : goal.invariant-loop-entry
invariant-loop-entry l = l.made.items ≡ map (entry_changed (raised_mark l.tomb) l.from l.to) (take l.entry-index l.entry-items)
