-- Continuity of a cache chain: what of a version may be believed. `versions` are those up to the version that is spoken of, the oldest
-- first, and `writes` the list of mutations that the version stands for.
--     IsWithin          what a version holds, joined into the source, changes nothing
--     IsContinuous      of a version: nothing beyond the source is held; what is known is the source there; the partition tombstone is
--                       complete; and the tombstone at a bare known position is that of the gap behind it
--     IsSameOrLost      each place is seen as before, or it is Unknown
use Rattle.std.specs.Prelude.{◌≡◌, ◌⊎◌, IsTrue, List, [], ◌∷◌, ◌++◌, Option, Some, None, map as list_map}
use Rattle.std.specs.Option.{option_to_list}
use Rattle.std.specs.List.{filter_map}
use Rattle.rc_cell.specs.declared.rows.Row.{Row}
use Rattle.rc_cell.specs.declared.writes.Tomb.{Tomb}
use Rattle.rc_cell.specs.Orders.{tomb_cmp}
use Rattle.rc_cell.specs.Winner.{greatest, joined_row}
use Rattle.rc_position.specs.declared.positions.Pos.{Pos}
use Rattle.rc_position.specs.Position.{Place, Head, Static, Clustered, place_cmp}
use Rattle.std.specs.declared.cmp.Ordering.TheVariants.{Less}
use Rattle.rc_mutation.specs.declared.mutations.Mutation.{Mutation}
use Rattle.rc_mutation.specs.Source.{source_at_head, source_at_static, source_at}
use Rattle.rc_core.specs.declared.entries.Entry.{Entry}
use Rattle.rc_core.specs.declared.entries.ChainKind.TheVariants.{Cache}
use Rattle.rc_core.specs.declared.entries.Flag.TheVariants.{Known, Unknown}
use Rattle.rc_core.specs.SpotState.{SpotState, through}
use Rattle.rc_core.specs.Version.{Spot, On, Version, state_at, static_state}
use Rattle.rc_core.specs.Change.{joined_onto}
use Rattle.rc_core.specs.Chain.{has_flag, content, states_at, IsEvenAt}

-- the rows and tombstones of a state, joined into the source, leave it as it is
abbrev pub IsWithin : SpotState → Row × Option Tomb → Type 0
IsWithin c source = (joined_row (source.0 ∷ c.rows) ≡ source.0) × (greatest tomb_cmp (option_to_list source.1 ++ c.tombs) ≡ source.1)

-- what each version answers at its static row
abbrev pub static_states : List Version → List SpotState
static_states versions = list_map static_state versions

-- the partition tombstones of versions
abbrev pub version_tombs : List Version → List Tomb
version_tombs versions = filter_map (λ (v : Version). v.pt) versions

-- what holds of each version
abbrev pub EachOf : (Version → Type 0) → List Version → Type 0
EachOf P [] = Unit {0}
EachOf P (v ∷ vs) = P v × EachOf P vs

-- no version holds more than the source, at its static row and at each position
pub record HoldNoMore (writes : List Mutation) (versions : List Version) : Type 0 where
  pub statics : EachOf (λ v. IsWithin (static_state v) (source_at_static writes, None)) versions
  pub clustered : (x : Pos) → EachOf (λ v. IsWithin (state_at (On x) v) (source_at writes x)) versions

-- the places that are reached: all, or those before the place of an update
abbrev pub Reached : Option Place → Place → Type 0
Reached None x = Unit {0}
Reached (Some p) x = place_cmp x p ≡ Less

-- `reach` is the place of the update, of a version under update, and None of every other
pub record IsContinuous (reach : Option Place) (writes : List Mutation) (versions : List Version) : Type 0 where
  pub within : HoldNoMore writes versions
  pub statics : Reached reach Static → IsTrue (has_flag Cache (static_states versions)) → content (static_states versions) ≡ (source_at_static writes, None)
  pub clustered : (x : Pos) → Reached reach (Clustered x) → IsTrue (has_flag Cache (states_at (On x) versions)) → content (states_at (On x) versions) ≡ source_at writes x
  pub head : Reached reach Head → greatest tomb_cmp (version_tombs versions) ≡ source_at_head writes
  pub even : (x : Pos) → Reached reach (Clustered x) → IsEvenAt Cache versions x

-- one state of a version lost, or as before
abbrev pub SameOrLost : SpotState → SpotState → Type 0
SameOrLost before now = (now ≡ before) ⊎ (now.flag ≡ Unknown)

-- of versions, what is seen through them at each place
pub record IsSameOrLost (before now : List Version) : Type 0 where
  pub statics : SameOrLost (through (static_states before)) (through (static_states now))
  pub clustered : (s : Spot) → SameOrLost (through (states_at s before)) (through (states_at s now))
  pub head : greatest tomb_cmp (version_tombs now) ≡ greatest tomb_cmp (version_tombs before)

-- a version after eviction of one of its objects: each place is said as before, or lost, with nothing held there
abbrev pub IsKeptOrLost : SpotState → SpotState → Type 0
IsKeptOrLost before now = (now ≡ before) ⊎ (now ≡ record { flag = Unknown; rows = []; tombs = [] })

-- a version that lost one object: each place is as before or lost, and the partition tombstone stays
pub record IsEvicted (before now : Version) : Type 0 where
  pub statics : IsKeptOrLost (static_state before) (static_state now)
  pub clustered : (s : Spot) → IsKeptOrLost (state_at s before) (state_at s now)
  pub head : now.pt ≡ before.pt

-- ---- the operations on one version

-- the version with other entries
abbrev pub with_entries : List Entry → Version → Version
with_entries es v = record { pt = v.pt; statics = v.statics; static_flag = v.static_flag; entries = es; phase = v.phase }

-- the static row filled: what is given is joined, and the flag is Known, also where there is nothing to join
abbrev pub joined_options : Option Row → Option Row → Option Row
joined_options old None = old
joined_options old (Some row) = Some (joined_onto old row)

-- the version with its static row filled
abbrev pub fill_statics : Option Row → Version → Version
fill_statics row v = record { pt = v.pt; statics = joined_options v.statics row; static_flag = Known; entries = v.entries; phase = v.phase }

-- its static row evicted
abbrev pub without_statics : Version → Version
without_statics v = record { pt = v.pt; statics = None; static_flag = Unknown; entries = v.entries; phase = v.phase }
