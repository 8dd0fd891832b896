-- The numbers that were passed are taken.
use Rattle.std.proofs.Common.{◌≡◌, ◌+◌, length}
use Rattle.rc_core.specs.Steps.{free_number}
use Rattle.rc_registry.proofs.pins.Pins.free_number.Given as goal

abbrev pub invariant-loop-left : goal.invariant-loop-left
invariant-loop-left l = (l.number + free_number l.left ≡ free_number l.self) × (l.number + length l.left ≡ length l.self)

abbrev pub decreases-loop-left : goal.decreases-loop-left
decreases-loop-left l = length l.left
