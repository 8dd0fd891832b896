-- What is said at an entry of a version, once a row was filled there: what inner functions promise each other.
use Rattle.std.specs.Prelude.{Option}
use Rattle.rc_cell.specs.declared.writes.Tomb.{Tomb}
use Rattle.rc_position.specs.declared.positions.Pos.{Pos}
use Rattle.rc_core.specs.Change.{at_entry, known_with, with_mark}
use Rattle.rc_core.specs.Continuity.{with_entries}
use Rattle.rc_core.specs.Version.{Version}

-- a version whose entry at a position is known there, with a range tombstone joined
abbrev pub known_at : Pos → Option Tomb → Version → Version
known_at x tomb v = with_entries (at_entry x (with_mark (known_with tomb)) v.entries) v
