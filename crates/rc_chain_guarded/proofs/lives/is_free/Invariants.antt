-- Nobody pins the versions that were passed.
use Rattle.std.proofs.Common.{◌≡◌, ◌<◌, ℕ, Some}
use Rattle.rc_core.specs.Chains.{IsPinned}
use Rattle.rc_memory.specs.Memory.{KeptChain, chain_at}
use Rattle.rc_chain_guarded.proofs.lives.is_free.Given as goal

abbrev pub invariant-loop-number : goal.invariant-loop-number
invariant-loop-number l = (k : KeptChain) (j : ℕ) → chain_at l.chains l.id ≡ Some k → j < l.number → IsPinned k.chain.pins j → ⊥
