use Rattle.lsa_tree_tests.specs.Furnished.{IsRoom}
use Rattle.lsa_tree_tests.proofs.rooms.waste.Given as goal

abbrev pub invariant-loop : goal.invariant-loop
invariant-loop l = IsRoom l.chain l.list l.region
