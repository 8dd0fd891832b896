-- The slots that were made are there, and no others.
use Rattle.lsa_tests.specs.Seated.{HasSlots}
use Rattle.lsa_tests.proofs.region.make_slots.Given as goal

abbrev pub invariant-loop : goal.invariant-loop
invariant-loop l = HasSlots l.region l.slots.items
