-- What one version answers at each spot of a partition.
--     Spot         a clustered position, or the open gap right behind one
--     finding_in   what entries say of a spot: the entry there, or else the gap before the first entry behind it
--     static_state, state_at    what a version answers at its static row, and at a spot
--     IsBeforeEnd  the entries reach up to the spot, as those of a version do: its last one is behind every row
use Rattle.std.specs.Prelude.{◌≡◌, ℕ, List, [], ◌∷◌, Option, None}
use Rattle.std.specs.declared.cmp.Ordering.{Ordering}
use Rattle.std.specs.declared.cmp.Ordering.TheVariants.{Less, Equal, Greater}
use Rattle.std.specs.Option.{option_to_list}
use Rattle.rc_cell.specs.declared.rows.Row.{Row}
use Rattle.rc_cell.specs.declared.writes.Tomb.{Tomb}
use Rattle.rc_position.specs.declared.positions.Pos.{Pos}
use Rattle.rc_position.specs.declared.positions.Weight.TheVariants.{After}
use Rattle.rc_position.specs.Position.{pos_cmp, IsBefore}
use Rattle.rc_core.specs.declared.entries.Entry.{Entry}
use Rattle.rc_core.specs.declared.entries.Flag.{Flag}
use Rattle.rc_core.specs.declared.entries.Flag.TheVariants.{Inherit}
use Rattle.rc_core.specs.declared.entries.Mark.{Mark}
use Rattle.rc_core.specs.SpotState.{SpotState, spot_state}

-- a clustered position, or the open gap right behind it
pub data Spot : Type 0 where
  On : Pos → Spot
  Behind : Pos → Spot

-- where the gap right behind a position stands, by where the position does
abbrev pub gap_ordering : Ordering → Ordering
gap_ordering Less = Less
gap_ordering Equal = Greater
gap_ordering Greater = Greater

-- where a spot stands against a position
abbrev pub spot_cmp : Spot → Pos → Ordering
spot_cmp (On x) y = pos_cmp x y
spot_cmp (Behind x) y = gap_ordering (pos_cmp x y)

-- what a version says of a spot: its flag and range tombstone, and its row if it has one there
pub record Finding : Type 0 where
  pub mark : Mark
  pub row : Option Row

-- a mark and a row that were found
abbrev pub finding_of : Mark → Option Row → Finding
finding_of mark row = record { mark = mark; row = row }

-- at a spot before an entry its gap answers, at its position itself, and behind it the entries that follow
abbrev pub entry_answers : Ordering → Entry → Finding → Finding
entry_answers Less e rest = finding_of e.gap None
entry_answers Equal e rest = finding_of e.at e.row
entry_answers Greater e rest = rest

-- what entries in order of position say of a spot
abbrev pub finding_in : Spot → List Entry → Finding
finding_in s [] = finding_of (record { flag = Inherit; tomb = None }) None
finding_in s (e ∷ es) = entry_answers (spot_cmp s e.position) e (finding_in s es)

-- what was found, as a state
abbrev pub state_of : Finding → SpotState
state_of f = spot_state f.mark.flag (option_to_list f.row) (option_to_list f.mark.tomb)

-- behind every row
abbrev pub end_position : Pos
end_position = record { prefix = []; weight = After }

-- a spot that stands before an entry or at it is reached; else the rest decides
abbrev pub IsReachedBy : Ordering → Type 0 → Type 0
IsReachedBy Less rest = Unit {0}
IsReachedBy Equal rest = Unit {0}
IsReachedBy Greater rest = rest

-- some entry stands at the spot or behind it
abbrev pub IsBeforeEnd : Spot → List Entry → Type 0
IsBeforeEnd s [] = ⊥
IsBeforeEnd s (e ∷ es) = IsReachedBy (spot_cmp s e.position) (IsBeforeEnd s es)

-- each entry stands before the next
abbrev pub Ascend : List Entry → Type 0
Ascend [] = Unit {0}
Ascend (e ∷ []) = Unit {0}
Ascend (e ∷ f ∷ es) = IsBefore e.position f.position × Ascend (f ∷ es)

-- the last entry is the end dummy
abbrev pub EndsWithDummy : List Entry → Type 0
EndsWithDummy [] = ⊥
EndsWithDummy (e ∷ []) = (e.position ≡ end_position) × (e.row ≡ None)
EndsWithDummy (e ∷ f ∷ es) = EndsWithDummy (f ∷ es)

-- a version of a partition
pub record Version : Type 0 where
  pub pt : Option Tomb
  pub statics : Option Row
  pub static_flag : Flag
  pub entries : List Entry
  pub phase : ℕ

-- entries ascend, and the last one is the end dummy
pub record IsVersion (v : Version) : Type 0 where
  pub ascend : Ascend v.entries
  pub ends : EndsWithDummy v.entries

-- what a version answers at its static row, and at a clustered spot
abbrev pub static_state : Version → SpotState
static_state v = spot_state v.static_flag (option_to_list v.statics) []

-- what a version answers at a spot
abbrev pub state_at : Spot → Version → SpotState
state_at s v = state_of (finding_in s v.entries)
