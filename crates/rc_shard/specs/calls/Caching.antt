-- What calls leave of the row cache, and of what memtables take.
--     AreStillThere  each chain of the cache is there still
--     LeavesCache    the cache has what it had
--     KeepsCache     so it has, and memtables take no more
--     IsFull         memory is full of what memtables take
--     AreOthers, HasCache, Forgets    partitions that were written leave the cache
use Rattle.std.specs.Prelude.{◌≡◌, ◌≤◌, ◌<◌, ◌+◌, ◌-◌, ◌*◌, ◌/◌, ℕ, false, List, Some, length}
use Rattle.std.specs.List.{AllByRecursion}
use Rattle.std.specs.Ordering.{eq_by_cmp}
use Rattle.lsa_region.specs.Region.{live_bytes}
use Rattle.rc_position.specs.Position.{bytes_cmp}
use Rattle.rc_schema.specs.SchemaValue.{SchemaValue}
use Rattle.rc_mutation.specs.declared.mutations.Partition.{Partition}
use Rattle.rc_registry.specs.ChainKind.TheVariants.{Cache}
use Rattle.rc_memory.specs.Memory.{KeptChain, Memory, chain_at}
use Rattle.rc_lookup.specs.Entries.{AreEntries}
use Rattle.rc_lookup.specs.Fillers.{losses}
use Rattle.rc_lookup.specs.Found.{entry_number}
use Rattle.rc_lookup.specs.Saying.{Below, CacheSays}
use Rattle.rc_lookup.specs.Footprint.{AreInUse, HaveOneVersion, cache_snapshots, memtable_bytes}
use Rattle.rc_lookup.specs.Staying.{HasSameContent, IsEntryStill}
use Rattle.rc_stream.specs.Snapshot.{NoneLost}
use Rattle.rc_shard.specs.Releasing.{KeepsSnapshots}

-- each chain of the cache is there still, with what it had
abbrev pub AreStillThere : Memory → Memory → Type 0
AreStillThere old new = (id : ℕ) (k : KeptChain) → chain_at old id ≡ Some k → k.chain.kind ≡ Cache → (now : KeptChain) × (chain_at new id ≡ Some now) × HasSameContent k now

-- Nothing that was lost is forgotten; and where nothing was lost each chain of the cache is there still. The cache says what it said, and its entries are the same; each of its chains has one version and is in use, where that was so; and each snapshot of one is there still, and no more are
pub record LeavesCache (old new : Memory) : Type 0 where
  pub says : (schema : SchemaValue) (below : Below) → CacheSays schema below old → CacheSays schema below new
  pub entries : (entries : List (List ℕ × ℕ)) → AreEntries entries old → AreEntries entries new
  pub one : HaveOneVersion old → HaveOneVersion new
  pub used : AreInUse old → AreInUse new
  pub snapshots : KeepsSnapshots old new
  pub lost : losses old ≤ losses new
  pub still : NoneLost (losses old) (losses new) → AreStillThere old new

-- so, and memtables take no more than they did
pub record KeepsCache (old new : Memory) : Type 0 where
  pub left : LeavesCache old new
  pub bytes : memtable_bytes new ≤ memtable_bytes old

-- more than three quarters of all but two segments are live, all of it of memtables but for what is left of chains of the cache that are pinned, if the cache has what it must
pub record IsFull (m : Memory) : Type 0 where
  pub crowded : 3 * 131072 / 4 * (length m.region.usages - 2) < live_bytes m.region
  pub live : HaveOneVersion m → AreInUse m → live_bytes m.region ≤ memtable_bytes m + 152 * cache_snapshots m

-- these partitions are of other keys
abbrev pub AreOthers : List ℕ → List Partition → Type 0
AreOthers key parts = AllByRecursion (λ p. eq_by_cmp bytes_cmp key p.key ≡ false) parts

-- entries are those of the cache, and each chain of it has one version and is in use
pub record HasCache (entries : List (List ℕ × ℕ)) (m : Memory) : Type 0 where
  pub are : AreEntries entries m
  pub one : HaveOneVersion m
  pub used : AreInUse m

-- partitions left the cache, which has all else that it had: other entries have their chains still, where nothing was lost; memtables take no more; and each snapshot of the cache is there still, and no more are
pub record Forgets (parts : List Partition) (before now : List (List ℕ × ℕ)) (old new : Memory) : Type 0 where
  pub says : (schema : SchemaValue) (below : Below) → CacheSays schema below old → CacheSays schema below new
  pub has : HasCache before old → HasCache now new
  pub found : HasCache before old → (key : List ℕ) (id : ℕ) → entry_number now key ≡ Some id → (entry_number before key ≡ Some id) × AreOthers key parts
  pub bytes : memtable_bytes new ≤ memtable_bytes old
  pub snapshots : KeepsSnapshots old new
  pub lost : losses old ≤ losses new
  pub stays : HasCache before old → NoneLost (losses old) (losses new) → (key : List ℕ) → AreOthers key parts → IsEntryStill key before old now new
