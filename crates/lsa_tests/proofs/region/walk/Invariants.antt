-- The slots are there.
use Rattle.lsa_tests.specs.Seated.{AreSlots}
use Rattle.lsa_tests.proofs.region.walk.Given as goal

abbrev pub invariant-loop-call : goal.invariant-loop-call
invariant-loop-call l = AreSlots l.region l.slots
