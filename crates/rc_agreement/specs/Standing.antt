-- Where a cache chain that agrees with writes stands for them.
--     IsHeldWithin    what agreement does not ask: what is held where it is not known, and other versions
use Rattle.std.specs.Prelude.{◌≡◌, ◌<◌, ℕ, IsTrue, List, length}
use Rattle.rc_position.specs.declared.positions.Pos.{Pos}
use Rattle.rc_mutation.specs.declared.mutations.Mutation.{Mutation}
use Rattle.rc_mutation.specs.Source.{source_at}
use Rattle.rc_core.specs.Chain.{IsKnown, content, has_flag, states_at}
use Rattle.rc_core.specs.Chains.{Shown, phase_at, upto}
use Rattle.rc_core.specs.Continuity.{HoldNoMore}
use Rattle.rc_core.specs.declared.entries.ChainKind.TheVariants.{Cache}
use Rattle.rc_core.specs.Version.{On}

-- of the version of a number of a cache chain: no version up to it holds more than writes, also where that is not known; at a position that is flagged, though the gap behind it is not, they say what is seen; and no other version of the chain has its phase
pub record IsHeldWithin (c : Shown) (number : ℕ) (writes : List Mutation) : Type 0 where
  pub within : HoldNoMore writes (upto c.versions number)
  pub flagged_alone : (x : Pos) → IsTrue (has_flag Cache (states_at (On x) (upto c.versions number))) → (IsKnown Cache (upto c.versions number) x → ⊥) → content (states_at (On x) (upto c.versions number)) ≡ source_at writes x
  pub other_phases : (j : ℕ) → j < length c.versions → phase_at c.versions j ≡ phase_at c.versions number → j ≡ number
