-- What a partition is looked up as, and what that leaves.
--     IsCacheOver    the cache says what lies below it, which fits a schema
--     IsStill        no object moved, came or went, and no chain of a memtable changed
--     IsUnread       the region and the recency list are as they were
use Rattle.std.specs.Prelude.{◌≡◌, ℕ, All, IsTrue, Some}
use Rattle.lsa_region.specs.Region.{SameObjects}
use Rattle.rc_schema.specs.SchemaValue.{SchemaValue, is_schema}
use Rattle.rc_writes.specs.Allowed.{ChangeFits}
use Rattle.rc_core.specs.declared.entries.ChainKind.TheVariants.{Memtable}
use Rattle.rc_memory.specs.Memory.{KeptChain, Memory, chain_at}
use Rattle.rc_cached.specs.Writes.{AreSmall}
use Rattle.rc_row_cache.specs.Saying.{Below, CacheSays}

-- the cache says what lies below it, which fits a schema of which no object is larger than an eighth of a segment
pub record IsCacheOver (S : ℕ) (schema : SchemaValue) (below : Below) (m : Memory) : Type 0 where
  pub limits : IsTrue (is_schema schema)
  pub small : AreSmall S schema
  pub fits : (id phase : ℕ) → All (ChangeFits schema) (below id phase)
  pub says : CacheSays schema below m

-- no object moved, came or went, and no chain of a memtable changed; nothing was counted
pub record IsStill (old new : Memory) : Type 0 where
  pub region : SameObjects old.region new.region
  pub counts : new.counts ≡ old.counts
  pub memtables : (id : ℕ) (k : KeptChain) → chain_at old id ≡ Some k → k.chain.kind ≡ Memtable → chain_at new id ≡ Some k

-- the region and the recency list are as they were
pub record IsUnread (old new : Memory) : Type 0 where
  pub region : new.region ≡ old.region
  pub recency : new.recency ≡ old.recency
