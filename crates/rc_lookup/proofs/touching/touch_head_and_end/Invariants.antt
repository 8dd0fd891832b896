-- The static rows and the ends went to the back in the versions below a number.
use Rattle.std.proofs.Common.{◌≡◌, ◌⊎◌, None, Some}
use Rattle.rc_core.specs.Version.{end_position}
use Rattle.rc_lookup.specs.Touched.{AreTouched}
use Rattle.rc_lookup.proofs.Given.{IsBelow}
use Rattle.rc_lookup.proofs.touching.touch_head_and_end.Given as goal

abbrev pub invariant-loop-number : goal.invariant-loop-number
invariant-loop-number g l = AreTouched (IsBelow l.fn.id l.number (λ p. (p ≡ None) ⊎ (p ≡ Some end_position))) l.fn.chains l.chains
