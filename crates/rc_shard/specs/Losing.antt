-- When the row cache gives something up.
--     IsCrowdedSince     how full memory is where an opening, a read or a flush lost something
--     LosesInCrowd       so full it is where something was lost
--     LosesForWrite      so it is where something was evicted for a write
--     IsLostInCrowd      by which commands that is so
use Rattle.std.specs.Prelude.{◌⊎◌, ◌+◌, ◌-◌, ◌*◌, ◌/◌, ◌^◌, ◌<◌, ◌≤◌, ⊤, length}
use Rattle.lsa_pool.specs.Room.{spare_of}
use Rattle.lsa_region.specs.Region.{live_bytes}
use Rattle.rc_lines.specs.declared.commands.Command.{Command}
use Rattle.rc_lines.specs.declared.commands.Command.TheVariants.{Flush, OpenRead, Put, Read}
use Rattle.rc_memory.specs.Memory.{Memory}
use Rattle.rc_lookup.specs.Crowding.{LosesNothing, versions_of}
use Rattle.rc_lookup.specs.Footprint.{IsCrowdedForWrite}

-- More than three quarters of all but two segments are live, once to what is live is added: an eighth of a segment, for one object; 152 bytes, a head and an end dummy, for each version that went since, where one may have come to be; and what chains became smaller by, which is counted.
abbrev pub IsCrowdedSince : Memory → Memory → Type 0
IsCrowdedSince old new = 3 * 131072 / 4 * (length new.region.usages - 2) < live_bytes new.region + 131072 / 8 + 152 * (versions_of old + 1 - versions_of new) + (new.counts.shrunk - old.counts.shrunk)

-- Nothing was lost, or memory is so full. Once the count of bytes by which chains became smaller stands at its most nothing is said.
abbrev pub LosesInCrowd : Memory → Memory → Type 0
LosesInCrowd old new = LosesNothing old new ⊎ (IsCrowdedSince old new ⊎ (2 ^ 64 - 1 ≤ new.counts.shrunk))

-- nothing was lost; or fewer bytes were spare at once than a write may need, and memory was crowded
abbrev pub LosesForWrite : Memory → Memory → Type 0
LosesForWrite old new = LosesNothing old new ⊎ ((spare_of 131072 old.region.usages < 7 * 131072 / 8) × IsCrowdedForWrite 131072 old new)

-- No opening, read, flush or write gives something up without need: the first three evict and skip only where memory is so full, and a write evicts only where it was too full for it.
abbrev pub IsLostInCrowd : Command → Memory → Memory → Type 0
IsLostInCrowd (OpenRead id key slice) old new = LosesInCrowd old new
IsLostInCrowd (Read id count) old new = LosesInCrowd old new
IsLostInCrowd (Put w) old new = LosesForWrite old new
IsLostInCrowd Flush old new = LosesInCrowd old new
IsLostInCrowd command old new = ⊤
