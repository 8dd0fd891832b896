-- How much room the segments of a store have, and which of them is emptied next.
use Rattle.std.specs.Prelude.{◌≡◌, ℕ, ◌+◌, ◌-◌, ◌*◌, ◌/◌, ◌<◌, ◌≤◌, List, length, slice_set, Option, Some, None, nat_le, if◌then◌else◌}
use Rattle.std.specs.Option.{option_and_then}
use Rattle.lsa_pool.specs.declared.Usage.{Usage}
use Rattle.lsa_pool.specs.declared.State.TheVariants.{Closed}
use Rattle.lsa_pool.specs.Room.{usage_of, free_count, live_sum, active_of, active_room, spare_of, sparsest_of}

-- how many bytes may surely still be taken, whatever the sizes, if the reserve may be taken too
abbrev pub stock_of : ℕ → List Usage → ℕ
stock_of size us = free_count us * (7 * size / 8) + (active_room size us - size / 8)

-- the closed segment with least live bytes, the first of such, if that is at most three quarters of a segment
abbrev pub sparse_of : ℕ → List Usage → Option ℕ
sparse_of size us = option_and_then (λ n. if nat_le (usage_of us n).live (3 * size / 4) then Some n else None) (sparsest_of us)

-- so many bytes were taken for an object, perhaps of a segment that was free: closed ones hold what they held, and what may still be taken falls by no more than these bytes
pub record IsTaken (size : ℕ) (old new : List Usage) (bytes : ℕ) : Type 0 where
  pub budget : length new ≡ length old
  pub total : live_sum new ≡ live_sum old + bytes
  pub closed : (n : ℕ) → (usage_of old n).state ≡ Closed → usage_of new n ≡ usage_of old n
  pub stock : stock_of size old ≤ stock_of size new + bytes
  pub spare : bytes ≤ spare_of size old → 0 < free_count old → (spare_of size old ≤ spare_of size new + bytes) × (0 < free_count new)

-- so many bytes of segment n are live no more; all else is as it was
pub record IsGivenBack (size : ℕ) (old new : List Usage) (n bytes : ℕ) : Type 0 where
  pub after : new ≡ slice_set old n (record (usage_of old n) { live = (usage_of old n).live - bytes })
  pub enough : bytes ≤ (usage_of old n).live
  pub budget : length new ≡ length old
  pub active : active_of new ≡ active_of old
  pub free : free_count new ≡ free_count old
  pub total : live_sum new + bytes ≡ live_sum old
  pub room : active_room size new ≡ active_room size old
