-- The dummies are there, each once.
use Rattle.lsa_tests.specs.Seated.{AreSeatedOnce}
use Rattle.lsa_tests.proofs.region.make_dummies.Given as goal

abbrev pub invariant-loop : goal.invariant-loop
invariant-loop l = AreSeatedOnce l.region l.dummies.items
