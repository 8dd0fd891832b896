-- What of the row cache stays.
--     HasSameContent    a chain has what another one had
--     IsStillThere      a chain is there still, with what it had
--     IsEntryStill      so is that of a partition in the cache
use Rattle.std.specs.Prelude.{◌≡◌, ℕ, List, Some}
use Rattle.rc_memory.specs.Memory.{KeptChain, Memory, chain_at}
use Rattle.rc_row_cache.specs.Entries.{IsCached}
use Rattle.rc_row_cache.specs.Found.{entry_number}

-- a chain is of the same kind as another one, is found by its key where that was, and has the same versions
pub record HasSameContent (old new : KeptChain) : Type 0 where
  pub kind : new.chain.kind ≡ old.chain.kind
  pub attached : new.chain.attached ≡ old.chain.attached
  pub versions : new.chain.versions ≡ old.chain.versions

-- the chain of a number, where there was one, is there still, with what it had
abbrev pub IsStillThere : Memory → Memory → ℕ → Type 0
IsStillThere old new id = (k : KeptChain) → chain_at old id ≡ Some k → (now : KeptChain) × (chain_at new id ≡ Some now) × HasSameContent k now

-- the entry of a key has its chain still, with what it had, where that was there
abbrev pub IsEntryStill : List ℕ → List (List ℕ × ℕ) → Memory → List (List ℕ × ℕ) → Memory → Type 0
IsEntryStill key before old now new = (id : ℕ) → entry_number before key ≡ Some id → IsCached old id → (entry_number now key ≡ Some id) × IsStillThere old new id
