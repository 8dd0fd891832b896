-- What calls of a cached stream may make of the chains.
--     LeavesChains    what they leave of all chains
use Rattle.std.specs.Prelude.{◌≡◌, ℕ, Some, None, length}
use Rattle.rc_core.specs.Chains.{IsPinned}
use Rattle.rc_memory.specs.Memory.{HasPin, KeptChain, Memory, chain_at}
use Rattle.rc_chain.specs.declared.chains.Snap.{Snap}
use Rattle.rc_filler.specs.Fills.{IsUsedAsBefore}
use Rattle.rc_snapshots.specs.Seeing.{HasSnap, StillSees}

-- a memtable's snapshot is there still and sees what it saw; each snapshot is there still, and its chain is used as before; no chain comes to be, and there are as many segments
pub record LeavesChains (m n : Memory) : Type 0 where
  pub memtables : (s : Snap) → HasSnap m s → StillSees s m n
  pub pins : (id pin : ℕ) → HasPin m id pin → HasPin n id pin
  pub pinned : (id j : ℕ) (k : KeptChain) → chain_at m id ≡ Some k → IsPinned k.chain.pins j → (now : KeptChain) × (chain_at n id ≡ Some now) × IsUsedAsBefore k now
  pub absent : (id : ℕ) → chain_at m id ≡ None → chain_at n id ≡ None
  pub segments : length n.region.usages ≡ length m.region.usages
