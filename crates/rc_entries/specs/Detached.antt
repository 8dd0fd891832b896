-- What becomes of the chain of an entry that is taken out.
use Rattle.std.specs.Prelude.{◌≡◌, ℕ, List, Some, None}
use Rattle.rc_memory.specs.Memory.{KeptChain, Member, Memory, chain_at, on_shown, shown_detached}
use Rattle.rc_chain.specs.Lives.{IsChainChanged, IsEndListed}

-- a chain of this number is no longer found by its key, nor under update, where it is there; else nothing is changed
pub record IsDetached (id : ℕ) (old new : Memory) : Type 0 where
  pub gone : chain_at old id ≡ None → new ≡ old
  pub there : (k : KeptChain) → chain_at old id ≡ Some k → (list : List Member) × IsEndListed id k.chain old.recency list × IsChainChanged id (on_shown shown_detached) list old new
