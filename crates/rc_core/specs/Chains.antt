-- Continuity of a whole chain.
--     Chain               its versions, the oldest first, and which of them are spoken for
--     IsNeeded            a version that somebody reads or will read: pinned; the newest of an attached chain; the one below the newest under update
--     IsChainContinuous   of a cache chain, and `below` gives the list of mutations of each phase
--     IsMemtableChain     of a memtable's chain: all flags are Inherit, and the tombstones at bare positions are those of the gaps behind them
--     Shown, at_place     a chain that says whether it is under update, and the same with the update's place beside it
--     IsCarried           a position that is known in the version that a snapshot pins and, before the update's place, in the newest too
use Rattle.std.specs.Prelude.{◌<◌, ◌≡◌, ◌⊎◌, ℕ, suc, Bool, true, List, [], ◌∷◌, Option, Some, None, cond, take, length, map as list_map}
use Rattle.std.proofs.Common.{get_or}
use Rattle.std.specs.declared.cmp.Ordering.TheVariants.{Less}
use Rattle.rc_position.specs.declared.positions.Pos.{Pos}
use Rattle.rc_position.specs.Position.{Place, Clustered, place_cmp}
use Rattle.rc_mutation.specs.declared.mutations.Mutation.{Mutation}
use Rattle.rc_core.specs.declared.entries.ChainKind.{ChainKind}
use Rattle.rc_core.specs.declared.entries.ChainKind.TheVariants.{Memtable, Cache}
use Rattle.rc_core.specs.declared.entries.Flag.TheVariants.{Inherit}
use Rattle.rc_core.specs.Version.{Spot, Version, state_at, static_state}
use Rattle.rc_core.specs.AtPlace.{IsAtPlace}
use Rattle.rc_core.specs.Chain.{IsKnown, IsEvenAt}
use Rattle.rc_core.specs.Continuity.{EachOf, HoldNoMore, IsContinuous}

-- the versions of a partition over one another, the oldest first, and what is known of their use
pub record Chain : Type 0 where
  pub kind : ChainKind
  pub versions : List Version
  pub attached : Bool
  -- the place of the update that stands in the newest version; None of a chain that is not under update
  pub updating : Option Place
  -- at the number of a snapshot that of the version which it pins, counted from the oldest; None at a number that is free
  pub pins : List (Option ℕ)

-- the versions up to the one of a number
abbrev pub upto : List Version → ℕ → List Version
upto versions j = take (suc j) versions

-- the phases of versions
abbrev pub phases : List Version → List ℕ
phases versions = list_map (λ (v : Version). v.phase) versions

-- the phase of a version
abbrev pub phase_at : List Version → ℕ → ℕ
phase_at versions j = get_or (phases versions) j 0

-- a snapshot pins the version of this number
abbrev pub IsPinned : List (Option ℕ) → ℕ → Type 0
IsPinned [] j = ⊥
IsPinned (p ∷ ps) j = (p ≡ Some j) ⊎ IsPinned ps j

-- an update stands somewhere
abbrev pub IsUpdating : Option Place → Type 0
IsUpdating None = ⊥
IsUpdating (Some p) = Unit {0}

-- somebody reads the version or will: it is pinned, the newest of an attached chain, or the one below the newest under update
abbrev pub IsNeeded : Chain → ℕ → Type 0
IsNeeded c j = IsPinned c.pins j ⊎ ((c.attached ≡ true) × (suc j ≡ length c.versions)) ⊎ (IsUpdating c.updating × (suc (suc j) ≡ length c.versions))

-- the update's place bounds the newest version alone
abbrev pub HasReach : Chain → ℕ → Option Place → Type 0
HasReach c j reach = (suc j ≡ length c.versions → reach ≡ c.updating) × ((suc j ≡ length c.versions → ⊥) → reach ≡ None)

-- what holds of the newest version
abbrev pub NewestIs : (Version → Type 0) → List Version → Type 0
NewestIs P [] = Unit {0}
NewestIs P (v ∷ []) = P v
NewestIs P (v ∷ w ∷ vs) = NewestIs P (w ∷ vs)

-- no version holds more than its source, each needed one is continuous, and the one under update stands at the update's place
pub record IsChainContinuous (below : ℕ → List Mutation) (c : Chain) : Type 0 where
  pub within : (j : ℕ) → j < length c.versions → HoldNoMore (below (phase_at c.versions j)) (upto c.versions j)
  pub needed : (j : ℕ) (reach : Option Place) → HasReach c j reach → IsNeeded c j → IsContinuous reach (below (phase_at c.versions j)) (upto c.versions j)
  pub ahead : (p : Place) → c.updating ≡ Some p → NewestIs (IsAtPlace p) c.versions

-- all flags of a version are Inherit
pub record AllInherit (v : Version) : Type 0 where
  pub statics : (static_state v).flag ≡ Inherit
  pub clustered : (s : Spot) → (state_at s v).flag ≡ Inherit

-- all flags are Inherit, and tombstones are even at each version that is pinned or the newest of an attached chain
pub record IsMemtableChain (c : Chain) : Type 0 where
  pub flags : EachOf AllInherit c.versions
  pub even : (j : ℕ) → IsPinned c.pins j ⊎ ((c.attached ≡ true) × (suc j ≡ length c.versions)) → (x : Pos) → IsEvenAt Memtable (upto c.versions j) x

-- the chain with other versions
abbrev pub with_versions : List Version → Chain → Chain
with_versions versions c = record { kind = c.kind; versions = versions; attached = c.attached; updating = c.updating; pins = c.pins }

-- ---- a chain as it is shown

-- a chain whose update, where one stands in it, has its place elsewhere: here it is told that there is one, and not where
pub record Shown : Type 0 where
  pub kind : ChainKind
  pub versions : List Version
  pub attached : Bool
  pub updating : Bool
  pub pins : List (Option ℕ)

-- the chain, with the update's place beside it
abbrev pub at_place : Place → Shown → Chain
at_place p c = record { kind = c.kind; versions = c.versions; attached = c.attached; updating = cond c.updating (Some p) None; pins = c.pins }

-- ---- carried positions

-- `pinned` are the versions up to the one that a snapshot pins, and `all` all of them
abbrev pub IsCarried : Option Place → List Version → List Version → Pos → Type 0
IsCarried None pinned all x = IsKnown Cache all x
IsCarried (Some p) pinned all x = IsKnown Cache pinned x × (place_cmp (Clustered x) p ≡ Less → IsKnown Cache all x)
