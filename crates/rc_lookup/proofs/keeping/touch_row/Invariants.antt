-- The entries at the key went to the back in the versions below a number.
use Rattle.std.proofs.Common.{◌≡◌, Some}
use Rattle.rc_position.specs.Position.{row_pos}
use Rattle.rc_lookup.specs.Touched.{AreTouched}
use Rattle.rc_lookup.proofs.Given.{IsBelow}
use Rattle.rc_lookup.proofs.keeping.touch_row.Given as goal

abbrev pub invariant-loop-number : goal.invariant-loop-number
invariant-loop-number g l = AreTouched (IsBelow l.fn.id l.number (λ p. p ≡ Some (row_pos l.fn.key))) l.fn.chains l.chains
