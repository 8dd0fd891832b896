use Rattle.lsa_tests.specs.Listed.{IsOneOf}
use Rattle.lsa_tests.proofs.list.nth.Given as goal

abbrev pub invariant-loop-step : goal.invariant-loop-step
invariant-loop-step l = IsOneOf l.list l.region l.found
