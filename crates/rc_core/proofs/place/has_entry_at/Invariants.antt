-- What stands at the position stands among those that are left.
use Rattle.std.proofs.Common.{length}
use Rattle.std.specs.Prelude.{◌↔◌}
use Rattle.rc_core.specs.AtPlace.{HasEntryAt}
use Rattle.rc_core.proofs.place.has_entry_at.Given as goal

abbrev pub invariant-loop-left : goal.invariant-loop-left
invariant-loop-left l = HasEntryAt l.x l.left ↔ HasEntryAt l.x l.entries

abbrev pub decreases-loop-left : goal.decreases-loop-left
decreases-loop-left l = length l.left
