-- Each entry fits exactly where each that is left does.
use Rattle.std.proofs.Common.{length}
use Rattle.std.specs.Prelude.{◌↔◌}
use Rattle.rc_core.specs.AtPlace.{EachEntry}
use Rattle.rc_core.specs.calls.AtPlace.{FitsPlace}
use Rattle.rc_core.proofs.place.each_fits.Given as goal

abbrev pub invariant-loop-left : goal.invariant-loop-left
invariant-loop-left l = EachEntry (FitsPlace l.place) l.left ↔ EachEntry (FitsPlace l.place) l.entries

abbrev pub decreases-loop-left : goal.decreases-loop-left
decreases-loop-left l = length l.left
