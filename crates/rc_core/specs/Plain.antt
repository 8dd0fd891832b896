-- A flag and a tombstone as a state, and one such under another.
--     mark_state                the state of a gap, or of a position without a row
--     mark_under, row_under    what one version says of a spot, under what a newer one says there: its flag and tombstone, and its row
--     found_under              both
--     flag_under, head_under   the same of the flag of a static row, and of all that a version says at its head
use Rattle.std.specs.Prelude.{[], Option, None}
use Rattle.std.specs.Option.{option_to_list}
use Rattle.rc_cell.specs.declared.rows.Row.{Row}
use Rattle.rc_cell.specs.Orders.{tomb_cmp}
use Rattle.rc_cell.specs.Greatest.{greater}
use Rattle.rc_core.specs.declared.entries.Entry.{Entry}
use Rattle.rc_core.specs.declared.entries.Flag.{Flag}
use Rattle.rc_core.specs.declared.entries.Flag.TheVariants.{Known, Unknown, Inherit}
use Rattle.rc_core.specs.declared.entries.Mark.{Mark}
use Rattle.rc_core.specs.SpotState.{SpotState, spot_state}
use Rattle.rc_core.specs.Version.{Finding, finding_of, Version}
use Rattle.rc_core.specs.Change.{mark}
use Rattle.rc_core.specs.Continuity.{joined_options}

-- the state of a gap, or of a position without a row
abbrev pub mark_state : Mark → SpotState
mark_state m = spot_state m.flag [] (option_to_list m.tomb)

-- a flag and a tombstone under those of a newer version, which decide where its flag does; where it inherits it takes the flag, and of the
-- tombstones the greater
abbrev pub mark_by : Flag → Mark → Mark → Mark
mark_by Known older newer = newer
mark_by Unknown older newer = newer
mark_by Inherit older newer = mark older.flag (greater tomb_cmp older.tomb newer.tomb)

-- by the flag of the newer version
abbrev pub mark_under : Mark → Mark → Mark
mark_under older newer = mark_by newer.flag older newer

-- a row under that of a newer version, whose flag there is given
abbrev pub row_under : Flag → Option Row → Option Row → Option Row
row_under Known older newer = newer
row_under Unknown older newer = newer
row_under Inherit older newer = joined_options older newer

-- what one version says of a spot, under what a newer one says of it
abbrev pub found_under : Finding → Finding → Finding
found_under older newer = finding_of (mark_under older.mark newer.mark) (row_under newer.mark.flag older.row newer.row)

-- a flag that says nothing, and no tombstone
abbrev pub no_mark : Mark
no_mark = mark Inherit None

-- a static row's flag under that of a newer version
abbrev pub flag_under : Flag → Flag → Flag
flag_under older Known = Known
flag_under older Unknown = Unknown
flag_under older Inherit = older

-- the newer version with the older one's flag of the static row and its partition tombstone under its own
abbrev pub head_under : Version → Version → Version
head_under v w = record {
  pt = greater tomb_cmp v.pt w.pt;
  statics = w.statics;
  static_flag = flag_under v.static_flag w.static_flag;
  entries = w.entries;
  phase = w.phase;
}

-- the newer version's end dummy with the older one's under it
abbrev pub end_under : Entry → Entry → Entry
end_under e y = record { position = y.position; row = y.row; at = mark_under e.at y.at; gap = mark_under e.gap y.gap }
