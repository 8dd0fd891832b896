use Rattle.lsa_pool.specs.calls.Sparsest.{IsBest}
use Rattle.lsa_pool.proofs.least_live.Given as goal

abbrev pub invariant-loop-number : goal.invariant-loop-number
invariant-loop-number l = IsBest l.usages l.number l.best
