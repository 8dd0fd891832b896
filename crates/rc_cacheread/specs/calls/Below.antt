-- What is read of the stream below in a stretch that is not known, step by step.
use Rattle.std.specs.Prelude.{◌≡◌, ◌≢◌, ◌⊎◌, ◌≤◌, ℕ, ⊤, cond, List, Option, Some, None}
use Rattle.std.specs.Ordering.{is_le}
use Rattle.rc_cell.specs.declared.rows.Row.{Row}
use Rattle.rc_cell.specs.declared.writes.Tomb.{Tomb}
use Rattle.rc_cell.specs.Winner.{empty_row}
use Rattle.rc_position.specs.declared.comps.Comp.{Comp}
use Rattle.rc_position.specs.declared.positions.Pos.{Pos}
use Rattle.rc_position.specs.declared.positions.Weight.{Weight}
use Rattle.rc_position.specs.declared.positions.Weight.TheVariants.{Before, At, After}
use Rattle.rc_position.specs.Position.{IsBefore, pos_cmp, row_pos}
use Rattle.rc_stream.specs.Did.{Many}
use Rattle.rc_stream.specs.Places.{Reaches}
use Rattle.rc_mutation.specs.declared.fragments.Frag.{Frag}
use Rattle.rc_mutation.specs.declared.fragments.Frag.TheVariants as frag
use Rattle.rc_stream.specs.Snapshot.{There, Throughout, Unlost}
use Rattle.rc_cacheread.specs.declared.readers.Stage.{Stage}
use Rattle.rc_cacheread.specs.declared.readers.Stage.TheVariants.{Away, Sought, Within}
use Rattle.rc_cacheread.specs.declared.spots.Found.{Found}
use Rattle.rc_cacheread.specs.declared.spots.Found.TheVariants as found
use Rattle.rc_cacheread.specs.declared.spots.Step.{Step}
use Rattle.rc_cacheread.specs.declared.spots.Step.TheVariants as step
use Rattle.rc_cacheread.specs.declared.spots.RowAt.TheVariants as row
use Rattle.rc_cacheread.specs.declared.spots.Spot.{Spot}

-- one fill
abbrev pub Filling : {P H : Type 0} → (P → H → P → H → Type 0) → P × H → P × H → Type 0
Filling fills s t = fills s.0 s.1 t.0 t.1

-- fills, one after another
abbrev pub Fillings : {P H : Type 0} → (P → H → P → H → Type 0) → P → H → P → H → Type 0
Fillings {P} {H} fills p h q g = Many {S = P × H} (Filling fills) (p, h) (q, g)

-- what was lost before fills, or along them, is not forgotten by fills after those
abbrev pub StaysLost : {P H : Type 0} → (P → H → P → H → Type 0) → (H → ℕ) → P → H → Type 0
StaysLost {P} {H} fills lost p h = (q : P) (g : H) (r : P) (i : H) → Fillings fills p h q g → Fillings fills q g r i → lost g ≤ lost i

-- after fills: what may be filled still may be, and where nothing was lost, what was known still is, and this is now
pub record TakenIn {P H : Type 0} (may : P → H → Type 0) (lost : H → ℕ) (knows : P → H → Pos → There → Type 0) (p : P) (h : H) (q : P) (g : H) (this : Type 0) : Type 0 where
  pub still : may p h → may q g
  pub each : Unlost (may p h) (lost h) (lost g) ((x : Pos) (v : There) → knows p h x v → knows q g x v)
  pub now : Unlost (may p h) (lost h) (lost g) this

-- from x on up to a position, itself among them, the source has no row, and this tombstone
abbrev pub SaysUpto : (Pos → There → Type 0) → (x upto : Pos) → Option Tomb → Type 0
SaysUpto source x upto tomb = (y : Pos) → Reaches x y → Reaches y upto → source y (empty_row, tomb)

-- all but the place and the row there is as it was
abbrev pub IsBesidePlace : Spot → Spot → Type 0
IsBesidePlace s t = (t.told ≡ s.told) × (t.again ≡ s.again) × (t.tomb ≡ s.tomb)

-- a row was read: it is due at its place, unless it is empty; one that stands before the place is passed over
abbrev pub TookRow : List Comp → Row → Spot → Spot → Type 0
TookRow key r s t = ((t ≡ s) × IsBefore (row_pos key) s.place) ⊎ (Reaches s.place (row_pos key) × (t.place ≡ row_pos key) × IsBesidePlace s t × (((r ≡ empty_row) × (t.row ≡ s.row)) ⊎ ((r ≢ empty_row) × (t.row ≡ row.Due r))))

-- a change was read: from its place on its tombstone is in force, unless it stands before the place
abbrev pub TookChange : Pos → Option Tomb → Spot → Spot → Type 0
TookChange from tomb s t = ((t ≡ s) × IsBefore from s.place) ⊎ (Reaches s.place from × (t.place ≡ from) × (t.row ≡ s.row) × (t.told ≡ s.told) × (t.again ≡ s.again) × (t.tomb ≡ tomb) × (t.since ≡ None))

-- nothing was read up to a position
abbrev pub TookNothing : Pos → Spot → Spot → Type 0
TookNothing x s t = (t.place ≡ x) × (t.row ≡ s.row) × IsBesidePlace s t

-- a row was read where no tombstone is in force at the place: it is due, unless it is empty, or stands elsewhere
pub record TookRowHere (key : List Comp) (r : Row) (s t : Spot) : Type 0 where
  pub place : t.place ≡ s.place
  pub told : t.told ≡ s.told
  pub again : t.again ≡ s.again
  pub tomb : t.tomb ≡ None
  pub since : t.since ≡ None
  pub due : ((t.row ≡ s.row) × ((r ≡ empty_row) ⊎ (row_pos key ≢ s.place))) ⊎ ((row_pos key ≡ s.place) × (r ≢ empty_row) × (t.row ≡ row.Due r))

-- from the place on this tombstone is in force
pub record IsChangeTaken (tomb : Option Tomb) (s t : Spot) : Type 0 where
  pub place : t.place ≡ s.place
  pub row : t.row ≡ s.row
  pub told : t.told ≡ s.told
  pub again : t.again ≡ s.again
  pub now : t.tomb ≡ tomb
  pub since : t.since ≡ None

-- what was read at the place itself
abbrev pub TookHere : Found → Spot → Spot → Type 0
TookHere (found.Row key r) s t = TookRowHere key r s t
TookHere (found.Change from tomb) s t = IsChangeTaken tomb s t
TookHere found.Nothing s t = IsChangeTaken None s t

-- the source at the place, as far as it was read
abbrev pub TellsHere : (Pos → There → Type 0) → Pos → Found → Type 0
TellsHere source x (found.Row key r) = row_pos key ≡ x → source x (r, None)
TellsHere source x (found.Change from tomb) = ⊤
TellsHere source x found.Nothing = ⊤

-- the last position that stands before another one, if that is of a row; else that one
abbrev pub last_before : Pos → Weight → Pos
last_before x Before = x
last_before x At = record { prefix = x.prefix; weight = Before }
last_before x After = x

-- the nearer of a position and the last one before the end of a stretch
abbrev pub near_of : (upto end : Pos) → Pos
near_of upto end = cond (is_le (pos_cmp upto (last_before end end.weight))) upto (last_before end end.weight)

-- what a fragment is that was read, if one was
abbrev pub found_of : Option Frag → Found
found_of None = found.Nothing
found_of (Some (frag.Start pt)) = found.Nothing
found_of (Some (frag.Static r)) = found.Nothing
found_of (Some (frag.Row key r)) = found.Row key r
found_of (Some (frag.Change from tomb)) = found.Change from tomb
found_of (Some frag.End) = found.Nothing

-- the source from x on, as far as it was read up to `near`, in a stretch that ends at `end`, where this tombstone is in force at x
abbrev pub Tells : (Pos → There → Type 0) → (x near end : Pos) → Option Tomb → Found → Type 0
Tells source x near end tomb (found.Row key r) = Throughout x (row_pos key) (λ y. source y (empty_row, tomb)) × (Reaches x (row_pos key) → source (row_pos key) (r, tomb))
Tells source x near end tomb (found.Change from next) = Throughout x from (λ y. source y (empty_row, tomb))
Tells source x near end tomb found.Nothing = (y : Pos) → Reaches x y → Reaches y near → IsBefore y end → source y (empty_row, tomb)

-- what was read is taken: it is due, and more may stand up to `upto`; or the stretch ends; or nothing stands up to `upto`
abbrev pub TookFound : Found → (near end upto : Pos) → Spot → Spot → Stage → Stage → Step → Type 0
TookFound (found.Row key r) near end upto s t a b z = TookRow key r s t × (b ≡ a) × (z ≡ step.Passed)
TookFound (found.Change from tomb) near end upto s t a b z = ((IsBefore from end × TookChange from tomb s t × (b ≡ a)) ⊎ (Reaches end from × TookNothing end s t × (b ≡ Away))) × (z ≡ step.Passed)
TookFound found.Nothing near end upto s t a b z = (Reaches end upto × TookNothing end s t × (b ≡ Away) × (z ≡ step.Passed)) ⊎ (IsBefore upto end × TookNothing near s t × (b ≡ a) × (z ≡ step.Nothing))

-- where the stream below is once it was sought
abbrev pub sought_stage : Option Tomb → Stage
sought_stage None = Within
sought_stage (Some tomb) = Sought

-- it was sought, or is at the place
abbrev pub IsNotAway : Stage → Type 0
IsNotAway Away = ⊥
IsNotAway Sought = ⊤
IsNotAway Within = ⊤
