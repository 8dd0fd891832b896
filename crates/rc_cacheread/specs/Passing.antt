-- What is known of what a reader passed.
--     IsInsideRow     a position inside a row that is known, where no key of as many components is
--     IsKnownOver     from one position on and before another one each is known, but for those inside a row
use Rattle.std.specs.Prelude.{◌≢◌, ◌⊎◌, List, Option}
use Rattle.rc_cell.specs.declared.rows.Row.{Row}
use Rattle.rc_cell.specs.declared.writes.Tomb.{Tomb}
use Rattle.rc_cell.specs.Winner.{empty_row}
use Rattle.rc_position.specs.declared.comps.Comp.{Comp}
use Rattle.rc_position.specs.declared.positions.Pos.{Pos}
use Rattle.rc_position.specs.Position.{IsBefore, row_pos}
use Rattle.rc_stream.specs.Places.{Reaches}
use Rattle.rc_stream.specs.Snapshot.{There, Throughout}
use Rattle.rc_cacheread.specs.Reading.{behind_row}

-- a position behind a row that is known, and before what stands behind that row; the row is not empty, and not before `from`
pub record IsInsideRow (knows : Pos → There → Type 0) (from x : Pos) : Type 0 where
  pub key : List Comp
  pub row : Row
  pub tomb : Option Tomb
  pub known : knows (row_pos key) (row, tomb)
  pub written : row ≢ empty_row
  pub on : Reaches from (row_pos key)
  pub behind : IsBefore (row_pos key) x
  pub before : IsBefore x (behind_row key)

-- a position is known, or inside a row that is
abbrev pub IsKnownFrom : (Pos → There → Type 0) → (from x : Pos) → Type 0
IsKnownFrom knows from x = ((v : There) × knows x v) ⊎ IsInsideRow knows from x

-- from one position on and before another one each is known, or inside a row that is
abbrev pub IsKnownOver : (Pos → There → Type 0) → (from to : Pos) → Type 0
IsKnownOver knows from to = Throughout from to (IsKnownFrom knows from)
