-- What is counted, with what is left, is all; and no kind has more than 66 bytes.
use Rattle.std.proofs.Common.{◌≡◌, ◌≤◌, ◌+◌, ◌*◌, length}
use Rattle.rc_schema.specs.Largest.{components_size}
use Rattle.rc_schema.proofs.schemas.components_size.Given as goal

abbrev pub invariant-loop-left : goal.invariant-loop-left
invariant-loop-left l = record {
  counted : l.total + components_size l.left ≡ components_size l.kinds;
  few : l.total + 66 * length l.left ≤ 264;
}

abbrev pub decreases-loop-left : goal.decreases-loop-left
decreases-loop-left l = length l.left
