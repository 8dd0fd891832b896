-- Merging a version into the next newer one, as the cleaner does unit by unit.
--     Alike         two states that say the same: one flag, and one row and tombstone as what they hold is joined
--     IsSeenAlike   versions through which the same is said at each place
--     IsPutDown     at one place: both versions as before, or the older one's state has gone under the newer one's
--     IsMerged      a unit of merging, at each place
--     IsSilent      a version that says nothing anywhere, so that it may be dropped
use Rattle.std.specs.Prelude.{◌≡◌, ◌⊎◌, List, [], ◌∷◌, ◌++◌, Option, None, ℕ}
use Rattle.std.specs.Option.{option_to_list}
use Rattle.rc_cell.specs.declared.writes.Tomb.{Tomb}
use Rattle.rc_cell.specs.Orders.{tomb_cmp}
use Rattle.rc_cell.specs.Winner.{greatest}
use Rattle.rc_core.specs.declared.entries.Flag.TheVariants.{Inherit}
use Rattle.rc_core.specs.SpotState.{SpotState, silent, under, through, joined_state}
use Rattle.rc_core.specs.Version.{Spot, Version, state_at, static_state, end_position}
use Rattle.rc_core.specs.Chain.{states_at}
use Rattle.rc_core.specs.Change.{dummy, mark}
use Rattle.rc_core.specs.Continuity.{static_states, version_tombs}

-- two states that say the same: one flag, and one row and tombstone as what they hold is joined
abbrev pub Alike : SpotState → SpotState → Type 0
Alike c d = (c.flag ≡ d.flag) × (joined_state c ≡ joined_state d)

-- through these versions the same is said at each place as through those
pub record IsSeenAlike (before now : List Version) : Type 0 where
  pub statics : Alike (through (static_states now)) (through (static_states before))
  pub clustered : (s : Spot) → Alike (through (states_at s now)) (through (states_at s before))
  pub head : greatest tomb_cmp (version_tombs now) ≡ greatest tomb_cmp (version_tombs before)

-- the older and the newer state before, and both after
abbrev pub IsPutDown : SpotState → SpotState → SpotState → SpotState → Type 0
IsPutDown older newer older_after newer_after =
    ((older_after ≡ older) × (newer_after ≡ newer)) ⊎ ((older_after ≡ silent) × Alike newer_after (under older newer))

-- at each place both versions are as before, or the older state has gone under the newer one; the greatest partition tombstone stays
pub record IsMerged (older newer older_after newer_after : Version) : Type 0 where
  pub statics : IsPutDown (static_state older) (static_state newer) (static_state older_after) (static_state newer_after)
  pub clustered : (s : Spot) → IsPutDown (state_at s older) (state_at s newer) (state_at s older_after) (state_at s newer_after)
  pub head : greatest tomb_cmp (option_to_list older_after.pt ++ option_to_list newer_after.pt) ≡ greatest tomb_cmp (option_to_list older.pt ++ option_to_list newer.pt)

-- a version that says nothing anywhere, but perhaps a partition tombstone
pub record IsSilent (v : Version) : Type 0 where
  pub statics : static_state v ≡ silent
  pub clustered : (s : Spot) → state_at s v ≡ silent

-- a new version over others: only the end dummy, and every flag is Inherit
abbrev pub new_version : Option Tomb → ℕ → Version
new_version pt phase = record { pt = pt; statics = None; static_flag = Inherit; entries = dummy end_position (mark Inherit None) ∷ []; phase = phase }
