-- A change that was written into a chain.
--     chains_bytes        how many bytes all chains take, which is what is live
--     IsWithinWeight      the chains take at most what a change may take more
--     IsChangeWritten     the chain stands for it, too
use Rattle.std.specs.Prelude.{◌≡◌, ◌≤◌, ◌+◌, ◌/◌, ℕ, List, ◌++◌, ◌∷◌, [], Some, sum_by}
use Rattle.rc_schema.specs.SchemaValue.{SchemaValue}
use Rattle.rc_mutation.specs.declared.mutations.Mutation.{Mutation}
use Rattle.rc_writes.specs.Weight.{weight}
use Rattle.rc_memory.specs.Kept.{present}
use Rattle.rc_memory.specs.Memory.{KeptChain, Memory, chain_at}
use Rattle.rc_memory.specs.Room.{chain_bytes}
use Rattle.rc_memtable.specs.Changes.{KeepsChanges}
use Rattle.rc_memtable.specs.Steps.{IsGrown, AreOthersKept}

-- how many bytes all chains take
abbrev pub chains_bytes : Memory → ℕ
chains_bytes m = sum_by chain_bytes (present m.chains)

-- the chains take more by at most what a change may take, less so many bytes
abbrev pub IsWithinWeight : Mutation → ℕ → Memory → Memory → Type 0
IsWithinWeight change less old new = chains_bytes new + less ≤ chains_bytes old + weight change

-- a change was written into a chain: it stands for its changes with this one behind them; of what the change may take so many bytes are left over, and the chains take less by at most one object
pub record IsChangeWritten (S : ℕ) (schema : SchemaValue) (id : ℕ) (change : Mutation) (left : ℕ) (old new : Memory) : Type 0 where
  pub grown : (k : KeptChain) → chain_at old id ≡ Some k → (n : KeptChain) × (chain_at new id ≡ Some n) × IsGrown k n × ((changes : List Mutation) → KeepsChanges schema k.chain changes → KeepsChanges schema n.chain (changes ++ change ∷ []))
  pub others : AreOthersKept id old new
  pub grows : IsWithinWeight change left old new
  pub shrinks : chains_bytes old ≤ chains_bytes new + S / 8
