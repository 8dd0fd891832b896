-- Where a reader stands, and what is due there.
--     front, stand     what is due; from where on nothing was read
use Rattle.std.specs.Prelude.{cond, List, [], ◌∷◌, ◌++◌, Option, Some, None}
use Rattle.rc_cell.specs.declared.writes.Tomb.{Tomb}
use Rattle.rc_position.specs.declared.comps.Comp.{Comp}
use Rattle.rc_position.specs.declared.positions.Pos.{Pos}
use Rattle.rc_mutation.specs.declared.fragments.Frag.{Frag}
use Rattle.rc_mutation.specs.declared.fragments.Frag.TheVariants as frag
use Rattle.rc_stream.specs.Merging.{same_tomb}
use Rattle.rc_cacheread.specs.declared.spots.RowAt.{RowAt}
use Rattle.rc_cacheread.specs.declared.spots.RowAt.TheVariants as row
use Rattle.rc_cacheread.specs.declared.spots.Spot.{Spot}
use Rattle.rc_cacheread.specs.Reading.{behind_row}

-- a position, if there is one; else another
abbrev pub since_or : Option Pos → Pos → Pos
since_or None x = x
since_or (Some from) x = from

-- where the change stands that is due
abbrev pub change_place : Spot → Pos
change_place s = since_or s.since s.place

-- the change to the tombstone that was told, where it is to be told again
abbrev pub again_due : Option Pos → Option Tomb → List Frag
again_due None told = []
again_due (Some x) told = frag.Change x told ∷ []

-- the change that is due, if the tombstone in force is not the one that was told
abbrev pub due_change : Spot → List Frag
due_change s = cond (same_tomb s.told s.tomb) [] (frag.Change (change_place s) s.tomb ∷ [])

-- the row that is due at a key
abbrev pub row_due : RowAt → List Comp → List Frag
row_due row.Unread key = []
row_due (row.Due r) key = frag.Row key r ∷ []
row_due row.Given key = []

-- what is due
abbrev pub front : Spot → List Frag
front s = again_due s.again s.told ++ (due_change s ++ row_due s.row s.place.prefix)

-- the tombstone that was told, or none where it is to be told again
abbrev pub told_or : Option Pos → Option Tomb → Option Tomb
told_or None told = told
told_or (Some x) told = None

-- the tombstone in force before what is due
abbrev pub tomb_told : Spot → Option Tomb
tomb_told s = told_or s.again s.told

-- what stands behind the row at a place, if that was read; else the place itself
abbrev pub past_row : RowAt → Pos → Pos
past_row row.Unread x = x
past_row (row.Due r) x = behind_row x.prefix
past_row row.Given x = behind_row x.prefix

-- from where on nothing was read
abbrev pub stand : Spot → Pos
stand s = past_row s.row s.place
