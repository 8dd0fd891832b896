-- A step that passes what is known.
use Rattle.std.specs.Prelude.{◌≢◌, List, Option}
use Rattle.rc_cell.specs.declared.rows.Row.{Row}
use Rattle.rc_cell.specs.declared.writes.Tomb.{Tomb}
use Rattle.rc_cell.specs.Winner.{empty_row}
use Rattle.rc_position.specs.declared.comps.Comp.{Comp}
use Rattle.rc_position.specs.declared.positions.Pos.{Pos}
use Rattle.rc_position.specs.Position.{IsBefore, row_pos}
use Rattle.rc_stream.specs.Places.{Reaches}
use Rattle.rc_stream.specs.Snapshot.{There}
use Rattle.rc_cacheread.specs.Reading.{behind_row}

-- from one position on and before another one no row that is known is passed in part
abbrev pub PassesWhole : (Pos → There → Type 0) → (from to : Pos) → Type 0
PassesWhole knows from to = (key : List Comp) (row : Row) (tomb : Option Tomb) → knows (row_pos key) (row, tomb) → row ≢ empty_row → Reaches from (row_pos key) → IsBefore (row_pos key) to → Reaches (behind_row key) to
