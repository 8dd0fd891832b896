-- When what is lost is lost in a crowded region.
--     versions_of         how many versions all chains have
--     LosesNothing        nothing is evicted, and no fill skipped
--     KeepsLive           as much is live as before, but for versions that went, and for what chains became smaller by
--     IsNearlyFull        how full a region is in which no room can be made by moves
--     IsCrowded           how full the region is where something was lost
--     LosesWhereCrowded   so full it is where something was lost
use Rattle.std.specs.Prelude.{◌≡◌, ◌⊎◌, ◌+◌, ◌-◌, ◌*◌, ◌/◌, ◌^◌, ◌<◌, ◌≤◌, ℕ, length, sum_by}
use Rattle.lsa_region.specs.Region.{live_bytes}
use Rattle.rc_memory.specs.Kept.{present}
use Rattle.rc_memory.specs.Memory.{KeptChain, Memory}

-- how many versions a chain has
abbrev pub version_count : KeptChain → ℕ
version_count k = length k.chain.versions

-- how many all chains have
abbrev pub versions_of : Memory → ℕ
versions_of m = sum_by version_count (present m.chains)

-- nothing was evicted, and no fill was skipped
abbrev pub LosesNothing : Memory → Memory → Type 0
LosesNothing old new = (new.counts.evicted ≡ old.counts.evicted) × (new.counts.skipped ≡ old.counts.skipped)

-- As much is live as before, but for 152 bytes, a head and an end dummy, for each version that went, where so many may have been made; and but for what chains became smaller by, which is counted.
abbrev pub KeepsLive : ℕ → Memory → Memory → Type 0
KeepsLive made old new = live_bytes old.region + 152 * versions_of new + old.counts.shrunk ≤ live_bytes new.region + 152 * (versions_of old + made) + new.counts.shrunk

-- more than three quarters of all but two segments are live
abbrev pub IsNearlyFull : ℕ → Memory → Type 0
IsNearlyFull S m = 3 * S / 4 * (length m.region.usages - 2) < live_bytes m.region

-- More than three quarters of all but two segments are live, if to what is live so many bytes are added, for objects that went; 152 for each version that went, where so many may have been made; and what chains became smaller by, which is counted.
abbrev pub IsCrowded : (S objects made : ℕ) → Memory → Memory → Type 0
IsCrowded S objects made old new = 3 * S / 4 * (length new.region.usages - 2) + 152 * versions_of new + old.counts.shrunk < live_bytes new.region + objects + 152 * (versions_of old + made) + new.counts.shrunk

-- Where something was lost the region was crowded, but for one object of an eighth of a segment; where nothing was, as much is live. So many versions may have been made. The region has as many segments, and the count of bytes by which chains became smaller did not fall; once it stands at its most nothing is said.
pub record LosesWhereCrowded (S made : ℕ) (old new : Memory) : Type 0 where
  pub segments : length new.region.usages ≡ length old.region.usages
  pub versions : versions_of new ≤ versions_of old + made
  pub shrunk : old.counts.shrunk ≤ new.counts.shrunk
  pub cause : (LosesNothing old new × KeepsLive made old new) ⊎ (IsCrowded S (S / 8) made old new ⊎ (2 ^ 64 - 1 ≤ new.counts.shrunk))
