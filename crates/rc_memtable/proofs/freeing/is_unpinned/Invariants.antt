-- Nobody pins the versions so far.
use Rattle.std.specs.Prelude.{◌≡◌, ◌<◌, ℕ, Some}
use Rattle.rc_core.specs.Chains.{IsPinned}
use Rattle.rc_memory.specs.Memory.{KeptChain, chain_at}
use Rattle.rc_memtable.proofs.freeing.is_unpinned.Given as goal

abbrev pub invariant-loop-number : goal.invariant-loop-number
invariant-loop-number g l = (k : KeptChain) → chain_at l.chains l.id ≡ Some k → (j : ℕ) → j < l.number → IsPinned k.chain.pins j → ⊥
