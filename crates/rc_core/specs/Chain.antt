-- What is seen through a chain of versions, as a reader believes it. Each definition is of the states that the versions up to a pinned one
-- answer at a place, the oldest first.
--     base             the newest version whose flag there is not Inherit
--     has_flag         the base's flag is Known; without a base, the chain is a memtable's
--     content          the join of what the versions from the base on hold there; without a base, of all
--     IsBare           a clustered position with no row in what is seen
--     IsKnown          flagged and, at a bare position, the open gap behind it flagged too: the gap's base is the base at the spot behind
--     IsEvenAt         at a bare position that is known the tombstone is that of the gap behind it
use Rattle.std.specs.Prelude.{◌≡◌, ℕ, suc, Bool, true, false, IsTrue, List, [], ◌∷◌, Option, Some, None, cond, drop, map as list_map}
use Rattle.std.specs.List.{flat_map}
use Rattle.rc_cell.specs.declared.rows.Row.{Row}
use Rattle.rc_cell.specs.declared.writes.Tomb.{Tomb}
use Rattle.rc_cell.specs.Orders.{tomb_cmp}
use Rattle.rc_cell.specs.Winner.{greatest, joined_row, empty_row}
use Rattle.rc_position.specs.declared.positions.Pos.{Pos}
use Rattle.rc_position.specs.Position.{IsBefore}
use Rattle.rc_core.specs.declared.entries.ChainKind.{ChainKind}
use Rattle.rc_core.specs.declared.entries.ChainKind.TheVariants.{Memtable, Cache}
use Rattle.rc_core.specs.declared.entries.Flag.{Flag}
use Rattle.rc_core.specs.declared.entries.Flag.TheVariants.{Known, Unknown, Inherit}
use Rattle.rc_core.specs.SpotState.{SpotState}
use Rattle.rc_core.specs.Version.{Spot, On, Behind, Version, state_at, end_position}

-- a flag that is not Inherit
abbrev pub decides : Flag → Bool
decides Known = true
decides Unknown = true
decides Inherit = false

-- the flag Known
abbrev pub is_known : Flag → Bool
is_known Known = true
is_known Unknown = false
is_known Inherit = false

-- the number of a newer state that decides, or else 0 where the flag of this one decides
abbrev pub newer_first : Flag → Option ℕ → Option ℕ
newer_first flag (Some i) = Some (suc i)
newer_first flag None = cond (decides flag) (Some 0) None

-- the number of the newest state that is not Inherit, counted from the oldest
abbrev pub base : List SpotState → Option ℕ
base [] = None
base (c ∷ cs) = newer_first c.flag (base cs)

-- the states from a number on; all, where there is none
abbrev pub from_number : Option ℕ → List SpotState → List SpotState
from_number (Some i) states = drop i states
from_number None states = states

-- the flag of the state of a number
abbrev pub first_flag : List SpotState → Flag
first_flag [] = Inherit
first_flag (c ∷ cs) = c.flag

-- what stands below the oldest version
abbrev pub below_oldest : ChainKind → Bool
below_oldest Memtable = true
below_oldest Cache = false

-- the flag of the base is Known; without a base, what stands below the oldest version is known
abbrev pub flagged_from : ChainKind → Option ℕ → List SpotState → Bool
flagged_from kind (Some i) states = is_known (first_flag (drop i states))
flagged_from kind None states = below_oldest kind

-- a place is flagged, by the states of the versions there
abbrev pub has_flag : ChainKind → List SpotState → Bool
has_flag kind states = flagged_from kind (base states) states

-- the rows that the versions from the base on hold there
abbrev pub rows_from : List SpotState → List Row
rows_from states = flat_map (λ c. c.rows) (from_number (base states) states)

-- their range tombstones there
abbrev pub tombs_from : List SpotState → List Tomb
tombs_from states = flat_map (λ c. c.tombs) (from_number (base states) states)

-- what a reader takes from a place: the rows from the base on as one, and the greatest tombstone
abbrev pub content : List SpotState → Row × Option Tomb
content states = (joined_row (rows_from states), greatest tomb_cmp (tombs_from states))

-- the flag as the fold has it, over what stands below the oldest version
abbrev pub flag_over : ChainKind → Flag → Bool
flag_over kind Known = true
flag_over kind Unknown = false
flag_over kind Inherit = below_oldest kind

-- In what follows `versions` are those of a chain up to a pinned one, the oldest first.

-- what each version answers at a spot
abbrev pub states_at : Spot → List Version → List SpotState
states_at s versions = list_map (λ v. state_at s v) versions

-- no row is seen at the position
pub record IsBare (versions : List Version) (x : Pos) : Type 0 where
  pub inside : IsBefore x end_position
  pub no_row : (content (states_at (On x) versions)).0 ≡ empty_row

-- a clustered position is known
pub record IsKnown (kind : ChainKind) (versions : List Version) (x : Pos) : Type 0 where
  pub at : IsTrue (has_flag kind (states_at (On x) versions))
  pub gap : IsBare versions x → IsTrue (has_flag kind (states_at (Behind x) versions))

-- the tombstone at a bare position is that of the gap behind it
abbrev pub IsEvenAt : ChainKind → List Version → Pos → Type 0
IsEvenAt kind versions x = IsBare versions x → IsKnown kind versions x → (content (states_at (On x) versions)).1 ≡ (content (states_at (Behind x) versions)).1
