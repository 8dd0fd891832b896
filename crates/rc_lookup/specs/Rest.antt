-- What calls over the row cache leave of everything else.
--     LeavesRest    memtables, what snapshots see of them, and that no chain of the cache is to be dropped
--     LeavesBut     so, but for one snapshot more
use Rattle.std.specs.Prelude.{◌≡◌, ◌⊎◌, ◌≤◌, ◌+◌, ℕ, Some, length}
use Rattle.rc_core.specs.declared.entries.ChainKind.TheVariants.{Memtable}
use Rattle.rc_memory.specs.Memory.{HasPin, KeptChain, Memory, chain_at}
use Rattle.rc_chain.specs.declared.chains.Snap.{Snap}
use Rattle.rc_cached.specs.LetGo.{NoCountFell}
use Rattle.rc_cached.specs.Stands.{HasCacheSnapshot}
use Rattle.rc_snapshots.specs.Seeing.{AllStillSee}
use Rattle.rc_row_cache.specs.Footprint.{AreInUse, HaveOneVersion, cache_snapshots, memtable_bytes}

-- Each chain of a memtable is as it was, and each snapshot of one sees what it saw; the snapshots are those that were there, and each of a chain of the cache is there still. The region has as many segments, no count is less, and memtables take no more. Where each chain of the cache had one version each has one, and none is to be dropped that was not.
pub record LeavesRest (old new : Memory) : Type 0 where
  pub memtables : (id : ℕ) (k : KeptChain) → chain_at old id ≡ Some k → k.chain.kind ≡ Memtable → chain_at new id ≡ Some k
  pub seen : AllStillSee old new
  pub none_more : (s : Snap) → HasPin new s.chain s.pin → HasPin old s.chain s.pin
  pub segments : length new.region.usages ≡ length old.region.usages
  pub counts : NoCountFell old new
  pub bytes : memtable_bytes new ≤ memtable_bytes old
  pub one : HaveOneVersion old → HaveOneVersion new
  pub used : HaveOneVersion old → AreInUse old → AreInUse new
  pub pins : (id pin : ℕ) → HasCacheSnapshot old id pin → HasCacheSnapshot new id pin
  pub snapshots : cache_snapshots new ≤ cache_snapshots old

-- So it is, but that one snapshot more may be there.
pub record LeavesBut (s : Snap) (old new : Memory) : Type 0 where
  pub memtables : (id : ℕ) (k : KeptChain) → chain_at old id ≡ Some k → k.chain.kind ≡ Memtable → chain_at new id ≡ Some k
  pub seen : AllStillSee old new
  pub none_more : (t : Snap) → HasPin new t.chain t.pin → HasPin old t.chain t.pin ⊎ ((t.chain ≡ s.chain) × (t.pin ≡ s.pin))
  pub segments : length new.region.usages ≡ length old.region.usages
  pub counts : NoCountFell old new
  pub bytes : memtable_bytes new ≤ memtable_bytes old
  pub one : HaveOneVersion old → HaveOneVersion new
  pub used : HaveOneVersion old → AreInUse old → AreInUse new
  pub pins : (id pin : ℕ) → HasCacheSnapshot old id pin → HasCacheSnapshot new id pin
  pub snapshots : cache_snapshots new ≤ cache_snapshots old + 1
