use Rattle.lsa_tests.specs.Listed.{IsOneOf}
use Rattle.lsa_tests.proofs.list.leads_through.Given as goal

abbrev pub invariant-loop-number : goal.invariant-loop-number
invariant-loop-number l = IsOneOf l.list l.region l.found
