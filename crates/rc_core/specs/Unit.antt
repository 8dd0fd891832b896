-- A unit of an update, place by place: what one fragment of the update's mutation does to the version under update.
use Rattle.std.specs.Prelude.{◌≡◌, ◌⊎◌, List, [], ◌∷◌, Option, None}
use Rattle.std.specs.declared.cmp.Ordering.TheVariants.{Less}
use Rattle.rc_cell.specs.declared.rows.Row.{Row}
use Rattle.rc_cell.specs.declared.writes.Tomb.{Tomb}
use Rattle.rc_cell.specs.Winner.{empty_row}
use Rattle.rc_position.specs.declared.positions.Pos.{Pos}
use Rattle.rc_position.specs.Position.{Place, Head, Static, Clustered, place_cmp, IsBefore}
use Rattle.rc_mutation.specs.declared.mutations.Mutation.{Mutation}
use Rattle.rc_mutation.specs.Source.{source_at_static, source_at}
use Rattle.rc_core.specs.declared.entries.Flag.TheVariants.{Inherit}
use Rattle.rc_core.specs.SpotState.{SpotState, lost_state, joined_state}
use Rattle.rc_core.specs.Version.{Spot, On, Behind, Version, state_at, static_state, end_position}
use Rattle.rc_core.specs.Change.{position_of}
use Rattle.rc_core.specs.AtPlace.{HasItsPlace}

-- a place from `from` on and before `to`
pub record IsStretch (from to place : Place) : Type 0 where
  pub begun : place_cmp place from ≡ Less → ⊥
  pub short : place_cmp place to ≡ Less

-- what writes say at a spot: over a gap, no row and the range tombstone in force
abbrev pub source_at_spot : List Mutation → Spot → Row × Option Tomb
source_at_spot writes (On x) = source_at writes x
source_at_spot writes (Behind x) = (empty_row, (source_at writes x).1)

-- a position, or a gap before the end
abbrev pub IsInside : Spot → Type 0
IsInside (On x) = Unit {0}
IsInside (Behind x) = IsBefore x end_position

-- a state inherits, and holds what this says
abbrev pub Adds : SpotState → Row × Option Tomb → Type 0
Adds c source = (c.flag ≡ Inherit) × (joined_state c ≡ source)

-- from the update's place p on and before its next place q the version holds what the update's mutation says, and every flag is
-- Inherit; elsewhere nothing changes; and the next place is marked by an entry, the last one but for the end dummy
pub record IsUnit (p q : Place) (change : Mutation) (before now : Version) : Type 0 where
  pub head : IsStretch p q Head → now.pt ≡ change.pt
  pub head_left : (IsStretch p q Head → ⊥) → now.pt ≡ before.pt
  pub statics : IsStretch p q Static → Adds (static_state now) (source_at_static (change ∷ []), None)
  pub statics_left : (IsStretch p q Static → ⊥) → static_state now ≡ static_state before
  pub clustered : (s : Spot) → IsInside s → IsStretch p q (Clustered (position_of s)) → Adds (state_at s now) (source_at_spot (change ∷ []) s)
  pub clustered_left : (s : Spot) → (IsStretch p q (Clustered (position_of s)) → ⊥) → state_at s now ≡ state_at s before
  pub place : HasItsPlace q now.entries

-- the rest of the partition given up, where there is no room: from the update's place on, which is not the head, each place is lost, and
-- elsewhere nothing changes
pub record IsGivenUp (p : Place) (before now : Version) : Type 0 where
  pub head : now.pt ≡ before.pt
  pub statics : (place_cmp Static p ≡ Less → ⊥) → static_state now ≡ lost_state
  pub statics_left : place_cmp Static p ≡ Less → static_state now ≡ static_state before
  pub clustered : (x : Pos) → (place_cmp (Clustered x) p ≡ Less → ⊥) → IsBefore x end_position → (state_at (On x) now ≡ lost_state) × (state_at (Behind x) now ≡ lost_state)
  pub clustered_left : (s : Spot) → place_cmp (Clustered (position_of s)) p ≡ Less → state_at s now ≡ state_at s before
  pub at_end : (state_at (On end_position) now ≡ state_at (On end_position) before) ⊎ (state_at (On end_position) now ≡ lost_state)
