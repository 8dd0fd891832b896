-- What becomes of the row cache where a snapshot of one of its chains is taken back, and of its snapshots by other calls.
--     IsChainListed          something of a chain could be evicted
--     IsCachedReleased  a snapshot of a chain of the cache was taken back
--     IsSnapGivenBack       so it was, where there is one
--     KeepsSnapshots    each snapshot of a chain of the cache is there still, and they are no more
use Rattle.std.specs.Prelude.{◌≡◌, ◌≤◌, ◌+◌, ℕ, List, Option, Some, Contains, MatchOption, length}
use Rattle.rc_position.specs.declared.positions.Pos.{Pos}
use Rattle.rc_schema.specs.SchemaValue.{SchemaValue}
use Rattle.rc_registry.specs.ChainKind.TheVariants.{Cache, Memtable}
use Rattle.rc_memory.specs.Changes.{member_at}
use Rattle.rc_memory.specs.Memory.{HasPin, KeptChain, Memory, chain_at}
use Rattle.rc_chain.specs.declared.chains.Snap.{Snap}
use Rattle.rc_cached.specs.Stands.{HasCacheSnapshot}
use Rattle.rc_snapshots.specs.Seeing.{HasSnap, StillSees}
use Rattle.rc_lookup.specs.Entries.{AreEntries}
use Rattle.rc_lookup.specs.LetGo.{NoCountFell}
use Rattle.rc_lookup.specs.Footprint.{AreInUse, HaveOneVersion, cache_snapshots, memtable_bytes}
use Rattle.rc_lookup.specs.Saying.{Below, CacheSays}
use Rattle.rc_lookup.specs.Staying.{HasSameContent}

-- something of a chain could be evicted: it stands in the recency list
abbrev pub IsChainListed : Memory → ℕ → Type 0
IsChainListed m id = (j : ℕ) × (at : Option Pos) × Contains m.recency (member_at id j at)

-- A snapshot of a chain of the cache was taken back, and its chain went where it was in use by nothing else. The cache says what it said, its entries are the same, and each of its chains has one version and is in use where that was so. Each chain of a memtable is as it was, and its snapshots see what they saw; each other snapshot of the cache is there still, none came to be, and there is one less. Memtables take no more, the region has as many segments, nothing is counted, and the recency list is as it was. A chain of which something could be evicted is there still with what it had, and each other chain is as it was.
pub record IsCachedReleased (s : Snap) (old new : Memory) : Type 0 where
  pub says : (schema : SchemaValue) (below : Below) → CacheSays schema below old → CacheSays schema below new
  pub entries : (entries : List (List ℕ × ℕ)) → AreEntries entries old → AreEntries entries new
  pub one : HaveOneVersion old → HaveOneVersion new
  pub used : AreInUse old → AreInUse new
  pub memtables : (id : ℕ) (k : KeptChain) → chain_at old id ≡ Some k → k.chain.kind ≡ Memtable → chain_at new id ≡ Some k
  pub seen : (t : Snap) → HasSnap old t → StillSees t old new
  pub pins : (id pin : ℕ) → (id ≡ s.chain → pin ≡ s.pin → ⊥) → HasCacheSnapshot old id pin → HasCacheSnapshot new id pin
  pub none_more : (t : Snap) → HasPin new t.chain t.pin → HasPin old t.chain t.pin
  pub snapshots : cache_snapshots new + 1 ≤ cache_snapshots old
  pub bytes : memtable_bytes new ≤ memtable_bytes old
  pub segments : length new.region.usages ≡ length old.region.usages
  pub counts : new.counts ≡ old.counts
  pub fell : NoCountFell old new
  pub recency : new.recency ≡ old.recency
  pub still : (id : ℕ) (k : KeptChain) → chain_at old id ≡ Some k → k.chain.kind ≡ Cache → IsChainListed old id → (now : KeptChain) × (chain_at new id ≡ Some now) × HasSameContent k now
  pub beside : (id : ℕ) → (id ≡ s.chain → ⊥) → chain_at new id ≡ chain_at old id

-- a snapshot of a chain of the cache was taken back, where there is one
abbrev pub IsSnapGivenBack : Option Snap → Memory → Memory → Type 0
IsSnapGivenBack snap old new = MatchOption snap (new ≡ old) (λ s. IsCachedReleased s old new)

-- each snapshot of a chain of the cache is there still, and they are no more than there were
pub record KeepsSnapshots (old new : Memory) : Type 0 where
  pub each : (id pin : ℕ) → HasCacheSnapshot old id pin → HasCacheSnapshot new id pin
  pub number : cache_snapshots new ≤ cache_snapshots old
