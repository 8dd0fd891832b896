-- What inner calls did to the recency list.
--     IsReordered       it has its members in some order, and nothing else changed
use Rattle.std.specs.Prelude.{◌≡◌, Contains}
use Rattle.lsa_region.specs.Region.{SameObjects}
use Rattle.rc_memory.specs.Memory.{Member, Memory, listed_as}

-- the recency list has the members that it had, in some order; all else is as it was
pub record IsReordered (old new : Memory) : Type 0 where
  pub kept : (w : Member) → Contains old.recency w → Contains new.recency w
  pub same : new ≡ listed_as new.recency new.region old
  pub objects : SameObjects old.region new.region
