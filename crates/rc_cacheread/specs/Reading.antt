-- What a reader stands for: from a place on, the canonical stream of a source in a slice.
--     said_at    what a stream says at a position: the row, empty where there is none, and the range tombstone in force
--     Reads      rows and changes that say what the source is from a place on and before the slice's end, and nothing behind it
use Rattle.std.specs.Prelude.{◌≡◌, ◌≢◌, List, [], ◌∷◌, Option, None}
use Rattle.rc_cell.specs.declared.rows.Row.{Row}
use Rattle.rc_cell.specs.declared.writes.Tomb.{Tomb}
use Rattle.rc_cell.specs.Winner.{empty_row}
use Rattle.rc_position.specs.declared.comps.Comp.{Comp}
use Rattle.rc_position.specs.declared.positions.Pos.{Pos}
use Rattle.rc_position.specs.declared.positions.Weight.TheVariants.{After}
use Rattle.rc_position.specs.Position.{IsBefore}
use Rattle.rc_mutation.specs.declared.fragments.Frag.{Frag}
use Rattle.rc_mutation.specs.declared.fragments.Frag.TheVariants as frag
use Rattle.rc_stream.specs.Merging.{IsOrdered, IsTelling, place_of, rows_here}
use Rattle.rc_stream.specs.Places.{Reaches}
use Rattle.rc_stream.specs.Snapshot.{There}
use Rattle.rc_stream.specs.Stream.{force}

-- the first of some rows; the empty row where there is none
abbrev pub row_of_these : List Row → Row
row_of_these [] = empty_row
row_of_these (row ∷ rows) = row

-- what rows and changes say at x, where this tombstone is in force before them
abbrev pub said_at : Pos → Option Tomb → List Frag → There
said_at x tomb fs = (row_of_these (rows_here x fs), force x tomb fs)

-- no row, and no range tombstone
abbrev pub nothing_there : There
nothing_there = (empty_row, None)

-- behind the row of a key
abbrev pub behind_row : List Comp → Pos
behind_row key = record { prefix = key; weight = After }

-- each fragment stands at x or behind it
abbrev pub StandFrom : Pos → List Frag → Type 0
StandFrom x [] = Unit {0}
StandFrom x (f ∷ fs) = Reaches x (place_of f).0 × StandFrom x fs

-- what stands behind a row stands behind each position of which its key is a prefix
abbrev pub AreRowsApart : List Frag → Type 0
AreRowsApart [] = Unit {0}
AreRowsApart (frag.Row key row ∷ fs) = StandFrom (behind_row key) fs × AreRowsApart fs
AreRowsApart (f ∷ fs) = AreRowsApart fs

-- no row is empty
abbrev pub AreWritten : List Frag → Type 0
AreWritten [] = Unit {0}
AreWritten (frag.Row key row ∷ fs) = (row ≢ empty_row) × AreWritten fs
AreWritten (f ∷ fs) = AreWritten fs

-- rows and changes, where this tombstone is in force before them, say what the source is from x on and before `to`, and nothing behind it
pub record Reads (source : Pos → There → Type 0) (x to : Pos) (tomb : Option Tomb) (fs : List Frag) : Type 0 where
  pub ordered : IsOrdered fs
  pub telling : IsTelling tomb fs
  pub written : AreWritten fs
  pub apart : AreRowsApart fs
  pub from : StandFrom x fs
  pub within : (y : Pos) (v : There) → Reaches x y → IsBefore y to → source y v → v ≡ said_at y tomb fs
  pub beyond : (y : Pos) → Reaches x y → Reaches to y → said_at y tomb fs ≡ nothing_there
