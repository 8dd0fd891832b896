-- What a write leaves of both memtables, whatever comes of it.
--     AreSameKeys     both have the keys that they had, with the same chains
--     AreObjectsMoved objects may have moved, and nothing else was done
--     IsPutBehind     a write was put behind the later ones
--     IsNotPut        it was not, since there is no room for it
--     IsPutRefused    it was not, since memory was refused
use Rattle.std.specs.Prelude.{◌≡◌, ◌≤◌, ℕ, length}
use Rattle.lsa_region.specs.Region.{live_bytes}
use Rattle.rc_schema.specs.SchemaValue.{SchemaValue}
use Rattle.rc_mutation.specs.declared.mutations.Write.{Write}
use Rattle.rc_memory.specs.Kept.{IsLiveInChains}
use Rattle.rc_memory.specs.Memory.{IsUntouched, Memory}
use Rattle.rc_evict.specs.Lives.{IsSameButSlots}
use Rattle.rc_evict.specs.Evictions.{IsRoomMade}
use Rattle.rc_memtable.specs.Steps.{IsApplied}
use Rattle.rc_unstored.specs.declared.unstored.Unstored.{Unstored}

-- both have the keys that they had, with the numbers of their chains
pub record AreSameKeys {S : ℕ} (old new : Unstored S) : Type 0 where
  pub sealed : new.sealed ≡ old.sealed
  pub active : new.active ≡ old.active

-- objects may have moved, but the chains and the counts are as they were; the region has as many segments, as much is live in it, and no moved object is forgotten
pub record AreObjectsMoved (old mid : Memory) : Type 0 where
  pub untouched : IsUntouched old mid
  pub budget : length mid.region.usages ≡ length old.region.usages
  pub live : live_bytes mid.region ≡ live_bytes old.region
  pub moved : old.region.moved ≤ mid.region.moved

-- room was made, after which what is live is what all chains take, and a write was put behind the later ones
pub record IsPutBehind {S : ℕ} (schema : SchemaValue) (w : Write) (old new : Unstored S) : Type 0 where
  pub mid : Memory
  pub room : IsRoomMade S old.chains mid
  pub live : IsLiveInChains mid
  pub applied : IsApplied S schema w old.active new.active mid new.chains
  pub sealed : new.sealed ≡ old.sealed

-- all room was made that could be, and no write was put
pub record IsNotPut {S : ℕ} (old new : Unstored S) : Type 0 where
  pub room : IsRoomMade S old.chains new.chains
  pub keys : AreSameKeys old new

-- room was made, but no write was put; the region may have root slots more, at which nothing stands
pub record IsPutRefused {S : ℕ} (old new : Unstored S) : Type 0 where
  pub mid : Memory
  pub room : IsRoomMade S old.chains mid
  pub slots : IsSameButSlots mid new.chains
  pub keys : AreSameKeys old new
