-- The gap ends where it does by the versions that were passed.
use Rattle.std.proofs.Common.{List, take}
use Rattle.rc_position.specs.declared.positions.Pos.{Pos}
use Rattle.rc_core.specs.Parts.{IsReach}
use Rattle.rc_partition.specs.Partitions.{StandingVersion}
use Rattle.rc_reading.specs.calls.Gaps.{IsGapEnd}
use Rattle.rc_reading.specs.Reading.{AreUpTo, read_versions}
use Rattle.rc_reading.proofs.parts.reach.Given as goal

abbrev pub invariant-loop-i : goal.invariant-loop-i
invariant-loop-i g l = (read : List StandingVersion) → AreUpTo l.region l.root l.number read → (to : Pos) × IsGapEnd l.region l.upto l.end to × IsReach (read_versions (take l.i read)) l.x l.upto to
