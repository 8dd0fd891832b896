-- Cells, and what is seen where one version lies over another.
--     SpotState         what one version answers at one spot: its flag, and the rows and range tombstones that it holds there
--     under        an older version's state with a newer one's over it: Known and Unknown decide, Inherit joins
--     through      the states of versions, the oldest first, seen through one another
--     joined_state         what is held as one: the rows joined, and the greatest tombstone
use Rattle.std.specs.Prelude.{List, [], ◌∷◌, ◌++◌, Option}
use Rattle.rc_cell.specs.declared.rows.Row.{Row}
use Rattle.rc_cell.specs.declared.writes.Tomb.{Tomb}
use Rattle.rc_cell.specs.Orders.{tomb_cmp}
use Rattle.rc_cell.specs.Winner.{greatest, joined_row}
use Rattle.rc_core.specs.declared.entries.Flag.{Flag}
use Rattle.rc_core.specs.declared.entries.Flag.TheVariants.{Known, Unknown, Inherit}

-- what one version answers at one spot: its flag, and the rows and range tombstones that it holds there
pub record SpotState : Type 0 where
  pub flag : Flag
  pub rows : List Row
  pub tombs : List Tomb

-- a state of these
abbrev pub spot_state : Flag → List Row → List Tomb → SpotState
spot_state flag rows tombs = record { flag = flag; rows = rows; tombs = tombs }

-- what a version answers that says nothing there
abbrev pub silent : SpotState
silent = spot_state Inherit [] []

-- what a version answers that lost what it had there
abbrev pub lost_state : SpotState
lost_state = spot_state Unknown [] []

-- an older state with a newer one over it whose flag is this
abbrev pub over : Flag → SpotState → SpotState → SpotState
over Known older newer = newer
over Unknown older newer = newer
over Inherit older newer = spot_state older.flag (older.rows ++ newer.rows) (older.tombs ++ newer.tombs)

-- a newer state that is Known or Unknown decides; one that is Inherit takes the older one's flag, and both hold what they hold
abbrev pub under : SpotState → SpotState → SpotState
under older newer = over newer.flag older newer

-- the states of versions, the oldest first
abbrev pub through : List SpotState → SpotState
through [] = silent
through (oldest ∷ newer) = under oldest (through newer)

-- what a state holds, as one
abbrev pub joined_state : SpotState → Row × Option Tomb
joined_state c = (joined_row c.rows, greatest tomb_cmp c.tombs)
