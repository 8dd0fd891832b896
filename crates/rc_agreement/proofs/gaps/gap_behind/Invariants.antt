-- The gap is as the versions below the number say it.
use Rattle.std.proofs.Common.{◌≡◌, ℕ, Some, take}
use Rattle.rc_core.specs.Steps.{pin_at}
use Rattle.rc_memory.specs.Memory.{KeptChain, chain_at}
use Rattle.rc_agreement.specs.calls.Gaps.{IsGapSeen}
use Rattle.rc_agreement.proofs.gaps.gap_behind.Given as goal

abbrev pub invariant-loop-number : goal.invariant-loop-number
invariant-loop-number g l = (k : KeptChain) (j : ℕ) → chain_at l.chains l.snap.chain ≡ Some k → pin_at k.chain.pins l.snap.pin ≡ Some j → IsGapSeen (take l.number k.chain.versions) l.x l.gap
