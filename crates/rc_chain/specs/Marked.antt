-- The marks of an entry of a version.
use Rattle.std.specs.Prelude.{◌≡◌, Contains}
use Rattle.rc_position.specs.declared.positions.Pos.{Pos}
use Rattle.rc_core.specs.declared.entries.Entry.{Entry}
use Rattle.rc_core.specs.declared.entries.Mark.{Mark}
use Rattle.rc_core.specs.Version.{Version}

-- the entry of a version at a position has these marks: at its position, and over the gap before it
pub record HasMarksAt (x : Pos) (at gap : Mark) (v : Version) : Type 0 where
  pub entry : Entry
  pub among : Contains v.entries entry
  pub position : entry.position ≡ x
  pub mark : at ≡ entry.at
  pub gap_mark : gap ≡ entry.gap
