-- The greatest of the versions that were passed.
use Rattle.std.proofs.Common.{◌≡◌, List, take}
use Rattle.rc_cell.specs.Orders.{tomb_cmp}
use Rattle.rc_cell.specs.Winner.{greatest}
use Rattle.rc_core.specs.Continuity.{version_tombs}
use Rattle.rc_partition.specs.Partitions.{StandingVersion}
use Rattle.rc_reading.specs.Reading.{AreUpTo, read_versions}
use Rattle.rc_reading.proofs.walk.greatest_tomb.Given as goal

abbrev pub invariant-loop-i : goal.invariant-loop-i
invariant-loop-i g l = (read : List StandingVersion) → AreUpTo l.region l.root l.number read → l.pt ≡ greatest tomb_cmp (version_tombs (read_versions (take l.i read)))
