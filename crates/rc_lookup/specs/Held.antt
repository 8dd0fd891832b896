-- A snapshot that is handed out.
--     IsHeldOf       a snapshot of the chain of a partition in the cache is there, and was not before
--     IsHeldWhole    all of its partition is known to it, and something of its chain could be evicted
use Rattle.std.specs.Prelude.{◌≡◌, ℕ, Contains, List, Some}
use Rattle.rc_core.specs.Version.{end_position}
use Rattle.rc_memory.specs.Changes.{member_at}
use Rattle.rc_memory.specs.Memory.{HasPin, Memory}
use Rattle.rc_chain.specs.declared.chains.Snap.{Snap}
use Rattle.rc_cached.specs.Filling.{MayFill}
use Rattle.rc_cached.specs.Stands.{HasCacheSnapshot}
use Rattle.rc_row_cache.specs.Found.{entry_number}
use Rattle.rc_lookup.specs.Known.{IsSnapKnown}

-- a snapshot of the chain of a key's entry is there, and was not before
pub record IsHeldOf (key : List ℕ) (entries : List (List ℕ × ℕ)) (old new : Memory) (s : Snap) : Type 0 where
  pub entry : entry_number entries key ≡ Some s.chain
  pub there : HasCacheSnapshot new s.chain s.pin
  pub fresh : HasPin old s.chain s.pin → ⊥

-- to a snapshot that may be filled through all of its partition is known, and the end of the partition is in the recency list
pub record IsHeldWhole (m : Memory) (s : Snap) : Type 0 where
  pub known : IsSnapKnown m s
  pub may : MayFill m s.chain s.pin
  pub listed : Contains m.recency (member_at s.chain 0 (Some end_position))
