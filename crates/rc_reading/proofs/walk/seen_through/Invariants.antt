-- What is seen so far is what is seen through the versions that were passed.
use Rattle.std.proofs.Common.{List, take}
use Rattle.rc_core.specs.Merge.{Alike}
use Rattle.rc_core.specs.Slow.{seen_state}
use Rattle.rc_core.specs.SpotState.{through}
use Rattle.rc_partition.specs.Partitions.{StandingVersion}
use Rattle.rc_reading.specs.Reading.{AreUpTo}
use Rattle.rc_reading.specs.calls.Reading.{states_read}
use Rattle.rc_reading.proofs.walk.seen_through.Given as goal

abbrev pub invariant-loop-i : goal.invariant-loop-i
invariant-loop-i g l = (read : List StandingVersion) → AreUpTo l.region l.root l.number read → Alike (seen_state l.seen) (through (states_read l.asked (take l.i read)))
