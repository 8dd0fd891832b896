-- What is left says of the place what all entries say.
use Rattle.std.proofs.Common.{◌≡◌, length}
use Rattle.rc_core.specs.Slow.{spot_at}
use Rattle.rc_core.specs.Version.{finding_in}
use Rattle.rc_core.proofs.slow.flag_at.Given as goal

abbrev pub invariant-loop-left : goal.invariant-loop-left
invariant-loop-left l = finding_in (spot_at l.side l.x) l.left ≡ finding_in (spot_at l.side l.x) l.entries

abbrev pub decreases-loop-left : goal.decreases-loop-left
decreases-loop-left l = length l.left
