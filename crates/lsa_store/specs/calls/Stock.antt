-- What inner calls of a store did to the room of its segments.
use Rattle.std.specs.Prelude.{◌≡◌, ℕ, ◌+◌, ◌<◌, ◌⊎◌, List, length, slice_set, Some}
use Rattle.lsa_pool.specs.declared.Usage.{Usage}
use Rattle.lsa_pool.specs.Room.{usage_of, free_count, live_sum, active_of, active_room}

-- nothing was done, or the active segment, with too little room, was closed, and a free one is active
abbrev pub IsTurned : ℕ → List Usage → List Usage → ℕ → Type 0
IsTurned size old new need = (new ≡ old) ⊎ ((active_room size old < need) × (free_count new + 1 ≡ free_count old) × (active_room size new ≡ size))

-- so many bytes of the active segment, n, are used and live now
pub record IsCredited (size : ℕ) (old new : List Usage) (n bytes : ℕ) : Type 0 where
  pub after : new ≡ slice_set old n (record (usage_of old n) { used = (usage_of old n).used + bytes; live = (usage_of old n).live + bytes })
  pub budget : length new ≡ length old
  pub was : active_of old ≡ Some n
  pub active : active_of new ≡ Some n
  pub free : free_count new ≡ free_count old
  pub total : live_sum new ≡ live_sum old + bytes
  pub room : active_room size new + bytes ≡ active_room size old
