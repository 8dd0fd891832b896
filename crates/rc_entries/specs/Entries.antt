-- Entries over the chains of a shard.
--     IsCached        a chain of the cache, found by its key
--     AreEntries      the entries are the chains of the cache that are found by their keys
--     AreSettled      of no entry the chain is gone
--     AreContinuous   what the chains of the entries know is what lies below
--     IsUsedAlike     a chain of the same use
--     LeavesCached    what may become of chains beside the entries
use Rattle.std.specs.Prelude.{◌≡◌, ◌⊎◌, ℕ, true, false, List, Some}
use Rattle.rc_position.specs.Position.{Head}
use Rattle.rc_mutation.specs.declared.mutations.Mutation.{Mutation}
use Rattle.rc_core.specs.declared.entries.ChainKind.TheVariants.{Cache}
use Rattle.rc_core.specs.Chains.{IsChainContinuous, at_place}
use Rattle.rc_registry.specs.Registry.{IsNumberIn}
use Rattle.rc_memory.specs.Memory.{KeptChain, Memory, chain_at}
use Rattle.rc_entries.specs.Found.{DoKeysAscend, entry_number}

-- a chain of this number is there, one of the cache that is found by its key
pub record IsCached (m : Memory) (id : ℕ) : Type 0 where
  pub kept : KeptChain
  pub there : chain_at m id ≡ Some kept
  pub kind : kept.chain.kind ≡ Cache
  pub attached : kept.chain.attached ≡ true

-- the keys ascend, and each has a chain of its own: one of the cache that is found by its key, or one that is gone, whose number is still to be told; and each chain of the cache that is found by its key is that of an entry
pub record AreEntries (entries : List (List ℕ × ℕ)) (m : Memory) : Type 0 where
  pub ascend : DoKeysAscend entries
  pub apart : (key other : List ℕ) (id : ℕ) → entry_number entries key ≡ Some id → entry_number entries other ≡ Some id → key ≡ other
  pub kept : (key : List ℕ) (id : ℕ) → entry_number entries key ≡ Some id → IsCached m id ⊎ IsNumberIn m.dropped id
  pub all : (id : ℕ) → IsCached m id → (key : List ℕ) × (entry_number entries key ≡ Some id)

-- no entry's number is still to be told
abbrev pub AreSettled : List (List ℕ × ℕ) → Memory → Type 0
AreSettled entries m = (key : List ℕ) (id : ℕ) → entry_number entries key ≡ Some id → IsNumberIn m.dropped id → ⊥

-- what lies below a key at a phase is what the chain of its entry knows of it, where that is there and no update stands in it
abbrev pub AreContinuous : (List ℕ → ℕ → List Mutation) → List (List ℕ × ℕ) → Memory → Type 0
AreContinuous below entries m = (key : List ℕ) (id : ℕ) (k : KeptChain) → entry_number entries key ≡ Some id → chain_at m id ≡ Some k → k.chain.updating ≡ false → IsChainContinuous (below key) (at_place Head k.chain)

-- a chain of this number is there, of the same kind as another one, and found by its key where that is
pub record IsUsedAlike (m : Memory) (id : ℕ) (k : KeptChain) : Type 0 where
  pub now : KeptChain
  pub there : chain_at m id ≡ Some now
  pub kind : now.chain.kind ≡ k.chain.kind
  pub attached : now.chain.attached ≡ k.chain.attached

-- each chain of the cache that is found by its key is that still, or it is gone and its number to be told; none became one; and numbers that were to be told still are
pub record LeavesCached (old new : Memory) : Type 0 where
  pub cached : (id : ℕ) → IsCached old id → IsCached new id ⊎ IsNumberIn new.dropped id
  pub told : (id : ℕ) → IsNumberIn old.dropped id → IsNumberIn new.dropped id
  pub none : (id : ℕ) → IsCached new id → IsCached old id
