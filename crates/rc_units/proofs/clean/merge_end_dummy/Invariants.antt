-- The entries before the index have been made.
use Rattle.std.proofs.Common.{◌≡◌, map, take}
use Rattle.rc_units.specs.Clean.{end_onto}
use Rattle.rc_units.proofs.clean.merge_end_dummy.Given as goal

abbrev pub invariant-loop-entry : goal.invariant-loop-entry
invariant-loop-entry l = l.made.items ≡ map (end_onto l.end) (take l.entry-index l.newer)
