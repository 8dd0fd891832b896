-- What is asked for where something is written into a chain, and what is said then.
use Rattle.std.specs.Prelude.{◌≡◌, ◌≤◌, ◌+◌, ℕ, suc, IsTrue, List, Some, IsSomeAnd, length}
use Rattle.lsa_pool.specs.Room.{spare_of}
use Rattle.rc_schema.specs.SchemaValue.{SchemaValue, is_schema}
use Rattle.rc_mutation.specs.declared.mutations.Mutation.{Mutation}
use Rattle.rc_writes.specs.Allowed.{ChangeFits}
use Rattle.rc_writes.specs.Single.{IsSingle}
use Rattle.rc_core.specs.declared.entries.ChainKind.TheVariants.{Memtable}
use Rattle.rc_core.specs.Chains.{IsPinned, Shown}
use Rattle.rc_memory.specs.Memory.{KeptChain, Memory, chain_at}
use Rattle.rc_memtable.specs.Changes.{KeepsChanges}
use Rattle.rc_memtable.specs.Writes.{AreSmall, IsNewestPinned, chain_of, joined_need}
use Rattle.rc_memtable.specs.Steps.{AreOthersKept, IsGrown}
use Rattle.rc_memtable.specs.calls.Steps.{chains_bytes}

-- the version of a number is the newest one, and nobody pins it
abbrev pub IsFreeNewest : ℕ → Shown → Type 0
IsFreeNewest number c = (suc number ≡ length c.versions) × (IsPinned c.pins number → ⊥)

-- something of a schema may be joined into the newest version of a chain, for which there are so many bytes
pub record CanJoinNewest (S : ℕ) (schema : SchemaValue) (m : Memory) (id number bytes : ℕ) : Type 0 where
  pub limits : IsTrue (is_schema schema)
  pub small : AreSmall S schema
  pub kept : (k : KeptChain) × (changes : List Mutation) × (chain_at m id ≡ Some k) × IsFreeNewest number k.chain × KeepsChanges schema k.chain changes
  pub spare : bytes ≤ spare_of S m.region.usages

-- a write may be written into a chain
pub record CanWrite (S : ℕ) (schema : SchemaValue) (m : Memory) (id : ℕ) (change : Mutation) : Type 0 where
  pub limits : IsTrue (is_schema schema)
  pub small : AreSmall S schema
  pub single : IsSingle change
  pub fits : ChangeFits schema change
  pub kept : (k : KeptChain) × (changes : List Mutation) × (chain_at m id ≡ Some k) × KeepsChanges schema k.chain changes
  pub joined : joined_need schema change ≤ spare_of S m.region.usages
  pub version : IsNewestPinned m id → 152 + joined_need schema change ≤ spare_of S m.region.usages

-- nobody pins the newest version of a chain, which has this number; the chain stands for what it stood for; at most a version was made
pub record IsOpened (id number : ℕ) (old new : Memory) : Type 0 where
  pub grown : (k : KeptChain) → chain_at old id ≡ Some k → (n : KeptChain) × (chain_at new id ≡ Some n) × IsGrown k n × IsFreeNewest number n.chain × ((schema : SchemaValue) (changes : List Mutation) → KeepsChanges schema k.chain changes → KeepsChanges schema n.chain changes)
  pub others : AreOthersKept id old new
  pub grows : chains_bytes new ≤ chains_bytes old + 152
  pub keeps : chains_bytes old ≤ chains_bytes new

-- each key has a memtable's chain of its own
pub record AreMemtables (chains : List (List ℕ × ℕ)) (m : Memory) : Type 0 where
  pub kept : (key : List ℕ) (id : ℕ) → chain_of chains key ≡ Some id → IsSomeAnd (chain_at m id) (λ k. k.chain.kind ≡ Memtable)
  pub apart : (key other : List ℕ) (id : ℕ) → chain_of chains key ≡ Some id → chain_of chains other ≡ Some id → key ≡ other
