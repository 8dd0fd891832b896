-- What reading a memtable's partitions leaves of the chains, where each chain is read by a snapshot that is taken back.
--     IsAsBefore     a chain has the same versions, and its snapshots pin what they pinned
--     AreAsBefore    so each chain, and all else is as it was
use Rattle.std.specs.Prelude.{◌≡◌, ℕ, Some, None}
use Rattle.rc_core.specs.Steps.{pin_at}
use Rattle.rc_memory.specs.Memory.{KeptChain, Memory, chain_at}

-- a chain is as it was, but that a number of a snapshot may be free that none had
pub record IsAsBefore (old new : KeptChain) : Type 0 where
  pub kind : new.chain.kind ≡ old.chain.kind
  pub versions : new.chain.versions ≡ old.chain.versions
  pub attached : new.chain.attached ≡ old.chain.attached
  pub updating : new.chain.updating ≡ old.chain.updating
  pub pins : (pin : ℕ) → pin_at new.chain.pins pin ≡ pin_at old.chain.pins pin
  pub passed : new.passed ≡ old.passed

-- the same chains are there, each as it was, and so is all else
pub record AreAsBefore (old new : Memory) : Type 0 where
  pub there : (id : ℕ) (k : KeptChain) → chain_at old id ≡ Some k → (now : KeptChain) × (chain_at new id ≡ Some now) × IsAsBefore k now
  pub absent : (id : ℕ) → chain_at old id ≡ None → chain_at new id ≡ None
  pub recency : new.recency ≡ old.recency
  pub dropped : new.dropped ≡ old.dropped
  pub counts : new.counts ≡ old.counts
  pub region : new.region ≡ old.region
  pub standing : new.standing ≡ old.standing
