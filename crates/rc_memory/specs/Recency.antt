-- Which objects the recency list holds: those that an eviction may take, each once.
--     MayBeListed     an entry or a static row of a cache chain, but the end dummy of a version under update
--     MustBeListed    each of them but end dummies, which leave the list when they are evicted, and the dummy at an update's place: the last entry before the end of a version under update
--     IsRecency       the list of a shard is such a list
use Rattle.std.specs.Prelude.{◌≡◌, ◌≢◌, ℕ, suc, true, List, [], ◌∷◌, ◌++◌, Option, Some, None, IsSome, IsSomeAnd, length, Contains, AllPairs}
use Rattle.rc_position.specs.declared.positions.Pos.{Pos}
use Rattle.rc_registry.specs.ChainKind.TheVariants.{Cache}
use Rattle.rc_registry.specs.Entry.{Entry}
use Rattle.rc_registry.specs.AtPlace.{HasEntryAt}
use Rattle.rc_registry.specs.Chains.{Shown}
use Rattle.rc_registry.specs.Version.{Version, end_position}
use Rattle.rc_memory.specs.Memory.{Member, Memory, IsVersionAt, chain_at}

-- a version has an object there: an entry at a position, or a static row
abbrev pub HasObject : Version → Option Pos → Type 0
HasObject v None = IsSome v.statics
HasObject v (Some x) = HasEntryAt x v.entries

-- the version of this number is the one under update
abbrev pub IsUnderUpdate : Shown → ℕ → Type 0
IsUnderUpdate c j = (c.updating ≡ true) × (suc j ≡ length c.versions)

-- the last entry before the end dummy stands there
abbrev pub IsLastInner : Version → Option Pos → Type 0
IsLastInner v at = (front : List Entry) × (e : Entry) × (end : Entry) × (v.entries ≡ front ++ (e ∷ end ∷ [])) × (at ≡ Some e.position)

-- an object of a cache chain that may be in the list
pub record MayBeListed (c : Shown) (j : ℕ) (at : Option Pos) : Type 0 where
  pub cached : c.kind ≡ Cache
  pub version : Version
  pub number : IsVersionAt c.versions j version
  pub object : HasObject version at
  pub settled : IsUnderUpdate c j → at ≢ Some end_position

-- one that is in it
pub record MustBeListed (c : Shown) (j : ℕ) (at : Option Pos) : Type 0 where
  pub cached : c.kind ≡ Cache
  pub version : Version
  pub number : IsVersionAt c.versions j version
  pub object : HasObject version at
  pub inner : at ≢ Some end_position
  pub passed : IsUnderUpdate c j → IsLastInner version at → ⊥

-- the recency list has each object once, none that it may not have, and all that it must have
pub record IsRecency (m : Memory) : Type 0 where
  pub once : AllPairs ◌≢◌ m.recency
  pub members : (w : Member) → Contains m.recency w → IsSomeAnd (chain_at m w.chain) (λ k. MayBeListed k.chain w.version w.position)
  pub complete : (w : Member) → IsSomeAnd (chain_at m w.chain) (λ k. MustBeListed k.chain w.version w.position) → Contains m.recency w
