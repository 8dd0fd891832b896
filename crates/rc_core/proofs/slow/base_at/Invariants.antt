-- The base so far, or a newer one of what is left.
use Rattle.std.proofs.Common.{◌≡◌, ◌+◌, length, map}
use Rattle.rc_core.specs.Chain.{base, states_at}
use Rattle.rc_core.specs.Slow.{plain, spot_at}
use Rattle.rc_core.proofs.Slowly.{or_newer}
use Rattle.rc_core.proofs.slow.base_at.Given as goal

abbrev pub invariant-loop-left : goal.invariant-loop-left
invariant-loop-left l = (or_newer l.number l.found (base (states_at (spot_at l.side l.x) (map plain l.left))) ≡ base (states_at (spot_at l.side l.x) (map plain l.versions))) × (l.number + length l.left ≡ length l.versions)

abbrev pub decreases-loop-left : goal.decreases-loop-left
decreases-loop-left l = length l.left
