-- The versions below a number are counted.
use Rattle.std.proofs.Common.{◌≡◌, Some}
use Rattle.rc_memory.specs.Memory.{KeptChain, chain_at}
use Rattle.rc_census.proofs.Versions.{AreVersionsCounted}
use Rattle.rc_census.proofs.counting.sorts_of_chain.Given as goal

abbrev pub invariant-loop-number : goal.invariant-loop-number
invariant-loop-number g l = (k : KeptChain) → chain_at l.chains l.id ≡ Some k → AreVersionsCounted k l.number l.sorts
