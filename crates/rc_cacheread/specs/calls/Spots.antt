-- What comes next at a spot, and what a seek makes of it.
--     GivesDue     what comes next there
--     GoesOn       what a seek makes of it
use Rattle.std.specs.Prelude.{◌≡◌, ◌⊎◌, Bool, true, false, List, [], ◌∷◌, ◌++◌, Option, Some, None}
use Rattle.std.specs.Ordering.{is_ge, is_gt}
use Rattle.rc_cell.specs.declared.writes.Tomb.{Tomb}
use Rattle.rc_position.specs.declared.comps.Comp.{Comp}
use Rattle.rc_position.specs.declared.positions.Pos.{Pos}
use Rattle.rc_position.specs.Position.{IsBefore, pos_cmp, row_pos}
use Rattle.rc_mutation.specs.declared.fragments.Frag.TheVariants as frag
use Rattle.rc_mutation.specs.Fragments.{tomb_after}
use Rattle.rc_stream.specs.Merging.{same_tomb}
use Rattle.rc_stream.specs.Places.{Reaches}
use Rattle.rc_stream.specs.Stream.{first_upto, force, is_upto, onward, opening}
use Rattle.rc_cacheread.specs.declared.spots.RowAt.{RowAt}
use Rattle.rc_cacheread.specs.declared.spots.RowAt.TheVariants as row
use Rattle.rc_cacheread.specs.declared.spots.Spot.{Spot}
use Rattle.rc_cacheread.specs.declared.spots.Turn.{Turn}
use Rattle.rc_cacheread.specs.declared.spots.Turn.TheVariants as turn
use Rattle.rc_cacheread.specs.Spots.{front, tomb_told, stand}

-- nothing is due, and the place was not read
pub record HasNothingDue (s : Spot) : Type 0 where
  pub again : s.again ≡ None
  pub told : same_tomb s.told s.tomb ≡ true
  pub row : s.row ≡ row.Unread

-- the same is due, and the same was read
pub record IsSameSpot (s t : Spot) : Type 0 where
  pub due : front t ≡ front s
  pub from : stand t ≡ stand s
  pub told : tomb_told t ≡ tomb_told s
  pub tomb : t.tomb ≡ s.tomb

-- nothing is left up to `upto`, as far as what was read tells: the first that is due stands behind it, or nothing is due and the place is behind it, or the slice has ended
abbrev pub EndsUpto : (to upto : Pos) → Spot → Type 0
EndsUpto to upto s = (first_upto upto (front s) ≡ None) × (front s ≡ [] → IsBefore upto (stand s) ⊎ (Reaches to (stand s) × (s.tomb ≡ None)))

-- what came next at a place: what was due, if it stands at `upto` or before it; nothing; the end of the slice, where a tombstone was in force; or the place is to be read
abbrev pub GivesDue : (to upto : Pos) → Spot → Spot → Turn → Type 0
GivesDue to upto s t (turn.Given f) = (front s ≡ f ∷ front t) × (is_upto upto f ≡ true) × (tomb_told t ≡ tomb_after (tomb_told s) f) × (stand t ≡ stand s) × (t.tomb ≡ s.tomb)
GivesDue to upto s t turn.Nothing = IsSameSpot s t × EndsUpto to upto t
GivesDue to upto s t turn.Closed = (front s ≡ []) × Reaches to (stand s) × (stand t ≡ stand s) × (tomb_told t ≡ tomb_told s) × (t.tomb ≡ None) × (front t ≡ frag.Change (stand s) None ∷ []) × (same_tomb s.tomb None ≡ false)
GivesDue to upto s t turn.Unread = IsSameSpot s t × HasNothingDue t × Reaches t.place upto × IsBefore t.place to

-- what a seek leaves of what is due
pub record IsSpotSought (x : Pos) (s t : Spot) : Type 0 where
  pub due : front t ≡ opening x (force x (tomb_told s) (front s)) ++ onward x (front s)
  pub from : stand t ≡ stand s
  pub told : tomb_told t ≡ None
  pub tomb : t.tomb ≡ s.tomb
  pub before : onward x (front s) ≡ [] → IsBefore x (stand s)

-- all that is due stands before x, and from there on nothing was read
pub record IsBegunAt (x : Pos) (s t : Spot) : Type 0 where
  pub due : onward x (front s) ≡ []
  pub force : force x (tomb_told s) (front s) ≡ s.tomb
  pub on : Reaches (stand s) x
  pub place : t.place ≡ x
  pub row : t.row ≡ row.Unread
  pub told : t.told ≡ None
  pub again : t.again ≡ None
  pub tomb : t.tomb ≡ None

-- what a seek to x does: it stays within what was read, or begins anew behind it
abbrev pub GoesOn : Pos → Spot → Spot → Bool → Type 0
GoesOn x s t false = IsSpotSought x s t
GoesOn x s t true = IsBegunAt x s t

-- the tombstone that was told is to be told again at x, if there is one
abbrev pub told_at : Option Tomb → Pos → Option Pos
told_at None x = None
told_at (Some tomb) x = Some x

-- a position, if there is one, stands behind x
abbrev pub is_behind : Option Pos → Pos → Bool
is_behind None x = false
is_behind (Some from) x = is_gt (pos_cmp from x)

-- a row is due
abbrev pub is_row_due : RowAt → Bool
is_row_due row.Unread = false
is_row_due (row.Due r) = true
is_row_due row.Given = false

-- a row is due at x or behind it
abbrev pub is_row_from : RowAt → List Comp → Pos → Bool
is_row_from row.Unread key x = false
is_row_from (row.Due r) key x = is_ge (pos_cmp (row_pos key) x)
is_row_from row.Given key x = false

-- a seek to x behind all that is due: it stays within what was read, or begins anew
abbrev pub WentTo : Pos → Spot → Spot → Bool → Type 0
WentTo x s t false = IsBefore x (stand s) × (t.place ≡ stand s) × (t.row ≡ row.Unread) × (t.told ≡ s.told) × (t.again ≡ told_at s.told x) × (t.tomb ≡ s.tomb)
WentTo x s t true = Reaches (stand s) x × (t.place ≡ x) × (t.row ≡ row.Unread) × (t.told ≡ None) × (t.again ≡ None) × (t.tomb ≡ None)
