-- Each version that may be merged has a number below the mark.
use Rattle.std.proofs.Common.{◌≡◌, ◌<◌, ◌≤◌, ◌↔◌, ℕ, IsTrue, length}
use Rattle.rc_core.specs.Chains.{Chain, IsUpdating}
use Rattle.rc_units.specs.Clean.{MayMerge}
use Rattle.rc_units.proofs.choose.next_to_clean.Given as goal

abbrev pub invariant-loop-left : goal.invariant-loop-left
invariant-loop-left l = (l.left ≤ l.versions) × ((c : Chain) → length c.versions ≡ l.versions → c.pins ≡ l.pins → (IsTrue l.updating ↔ IsUpdating c.updating) → (j : ℕ) → MayMerge c j → j < l.left)

abbrev pub decreases-loop-left : goal.decreases-loop-left
decreases-loop-left l = l.left
