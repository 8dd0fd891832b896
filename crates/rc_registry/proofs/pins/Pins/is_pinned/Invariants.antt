-- A version is pinned by all pins where it is pinned by those that are left.
use Rattle.std.proofs.Common.{◌↔◌, length}
use Rattle.rc_core.specs.Chains.{IsPinned}
use Rattle.rc_registry.proofs.pins.Pins.is_pinned.Given as goal

abbrev pub invariant-loop-left : goal.invariant-loop-left
invariant-loop-left l = IsPinned l.left l.version ↔ IsPinned l.self l.version

abbrev pub decreases-loop-left : goal.decreases-loop-left
decreases-loop-left l = length l.left
