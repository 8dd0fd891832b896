-- What leaves the chains of the row cache.
--     AreCachesSame      each chain of the cache is as it was
--     IsRoomMadeBeside   room was made, and then each is as it was
use Rattle.std.specs.Prelude.{◌≡◌, ℕ, Some}
use Rattle.rc_core.specs.declared.entries.ChainKind.TheVariants.{Cache}
use Rattle.rc_registry.specs.Registry.{IsNumberIn}
use Rattle.rc_memory.specs.Memory.{KeptChain, Memory, chain_at}
use Rattle.rc_filler.specs.Evictions.{IsRoomMade}

-- each chain of the cache that was there is there, as it was, and no other one is; and numbers that were to be told still are
pub record AreCachesSame (old new : Memory) : Type 0 where
  pub stays : (id : ℕ) (k : KeptChain) → k.chain.kind ≡ Cache → chain_at old id ≡ Some k → chain_at new id ≡ Some k
  pub none : (id : ℕ) (k : KeptChain) → k.chain.kind ≡ Cache → chain_at new id ≡ Some k → chain_at old id ≡ Some k
  pub told : (id : ℕ) → IsNumberIn old.dropped id → IsNumberIn new.dropped id

-- room was made, by moves and evictions, and then each chain of the cache is as it was, and so are the counts
pub record IsRoomMadeBeside (S : ℕ) (old new : Memory) : Type 0 where
  pub mid : Memory
  pub room : IsRoomMade S old mid
  pub same : AreCachesSame mid new
  pub counts : new.counts ≡ mid.counts
