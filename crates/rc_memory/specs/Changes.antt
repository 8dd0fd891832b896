-- What a call that changes one version of a chain leaves, and what becomes of the recency list.
--     IsVersionChanged    one version of a chain is another one; objects stand where they stood, but at some places
--     IsWithout           the list without a place, where it has it
--     IsRenewed           an object was made at a place: in a cache chain it is the most recent one
--     FitsChanged         what may be joined still makes objects of at most an eighth of a segment
--     KeepsLast           under update the last entry before the end stays the last one, or is listed
--     KeepsRows           what is done to a version changes none of its rows, and no position
--     LastIsListed        the last entry before the end of the version under update is listed
--     CanDrop             what holds of a version of a chain that may be dropped
use Rattle.std.specs.Prelude.{◌≡◌, ◌⊎◌, ◌<◌, ◌≤◌, ℕ, suc, true, List, [], ◌∷◌, ◌++◌, Option, Some, IfSome, length, map, Contains}
use Rattle.rc_position.specs.declared.positions.Pos.{Pos}
use Rattle.lsa_store.specs.declared.place.Ref.{Ref}
use Rattle.lsa_region.specs.Region.{View}
use Rattle.rc_cell.specs.declared.rows.Row.{Row}
use Rattle.rc_registry.specs.ChainKind.{ChainKind}
use Rattle.rc_registry.specs.ChainKind.TheVariants.{Cache, Memtable}
use Rattle.rc_registry.specs.Entry.{Entry}
use Rattle.rc_registry.specs.Chains.{Shown, IsPinned}
use Rattle.rc_registry.specs.Steps.{on_version}
use Rattle.rc_registry.specs.Version.{Version}
use Rattle.rc_partition.specs.Versions.{IsMarked}
use Rattle.rc_memory.specs.Memory.{KeptChain, Member, Memory, IsMemberObject, IsVersionAt, IsVersionObject, chain_at, on_chain, on_shown, on_version_of}
use Rattle.rc_memory.specs.Recency.{HasObject, IsLastInner, IsUnderUpdate}
use Rattle.rc_memory.specs.Room.{FitTogether}

-- the place of the static row of a version of a chain, or of its entry at a position
abbrev pub member_at : ℕ → ℕ → Option Pos → Member
member_at id j at = record { chain = id; version = j; position = at }

-- the objects of all chains stand where they stood, but those at these places
pub record StandStill (these : Member → Type 0) (old new : Memory) : Type 0 where
  pub versions : (id j : ℕ) (n : Ref) → IsVersionObject old id j n → IsVersionObject new id j n
  pub objects : (r : Ref) (w : Member) → (these w → ⊥) → IsMemberObject old r w → IsMemberObject new r w

-- the region has as many segments, and no object was moved
pub record IsUnmoved (old new : View) : Type 0 where
  pub budget : length new.usages ≡ length old.usages
  pub moved : new.moved ≡ old.moved
  pub compacted : new.compacted ≡ old.compacted
  pub epoch : IsMarked old new

-- the version of a number of a chain is another one; all else but the recency list is as it was, and objects stand where they stood, but at these places
pub record IsVersionChanged (id j : ℕ) (f : Version → Version) (these : Member → Type 0) (old new : Memory) : Type 0 where
  pub chains : new.chains ≡ on_chain id (on_shown (on_version_of j f)) old.chains
  pub dropped : new.dropped ≡ old.dropped
  pub counts : new.counts ≡ old.counts
  pub still : StandStill these old new
  pub region : IsUnmoved old.region new.region

-- at no place
abbrev pub Nowhere : Member → Type 0
Nowhere w = ⊥

-- at one place alone
abbrev pub AtAlone : Member → Member → Type 0
AtAlone place w = w ≡ place

-- the list without a place, where it has it
abbrev pub IsWithout : Member → List Member → List Member → Type 0
IsWithout w old new = ((Contains old w → ⊥) × (new ≡ old)) ⊎ ((front : List Member) × (back : List Member) × (old ≡ front ++ (w ∷ back)) × (new ≡ front ++ back))

-- an object was made at a place, in that of the one there if there was one: in a cache chain it is the most recent one
abbrev pub IsRenewed : ChainKind → Member → List Member → List Member → Type 0
IsRenewed Memtable w old new = new ≡ old
IsRenewed Cache w old new = (rest : List Member) × IsWithout w old rest × (new ≡ rest ++ (w ∷ []))

-- so at a place of a version where it has none; where it has one the list is as it was
pub record IsRenewedWhereNone (kind : ChainKind) (v : Version) (w : Member) (old new : List Member) : Type 0 where
  pub made : (HasObject v w.position → ⊥) → IsRenewed kind w old new
  pub there : HasObject v w.position → new ≡ old

-- with something done to a version of a chain, what may be joined in the chain still makes objects of at most an eighth of a segment
abbrev pub FitsChanged : ℕ → ℕ → ℕ → (Version → Version) → Memory → Type 0
FitsChanged S id j f m = IfSome (chain_at m id) (λ k. FitTogether S (on_version j f k.chain.versions))

-- where the version of a number is the one under update, its last entry before the end is that still when something is done to it, or is listed
abbrev pub KeepsLast : ℕ → ℕ → (Version → Version) → Memory → Type 0
KeepsLast id j f m = IfSome (chain_at m id) (λ k. (v : Version) → IsVersionAt k.chain.versions j v → IsUnderUpdate k.chain j → (at : Option Pos) → IsLastInner v at → IsLastInner (f v) at ⊎ Contains m.recency (member_at id j at))

-- the last entry before the end of the version under update of a chain is listed, where the chain is under update
abbrev pub LastIsListed : ℕ → Memory → Type 0
LastIsListed id m = (k : KeptChain) (j : ℕ) (v : Version) (at : Option Pos) → chain_at m id ≡ Some k → IsUnderUpdate k.chain j → IsVersionAt k.chain.versions j v → IsLastInner v at → Contains m.recency (member_at id j at)

-- nothing of a version of a chain is listed
abbrev pub NothingListed : ℕ → ℕ → Memory → Type 0
NothingListed id j m = (at : Option Pos) → Contains m.recency (member_at id j at) → ⊥

-- a version may be dropped: nobody pins it, and it is not the only one; nor is it under update, or the only one below that
pub record CanDrop (c : Shown) (j : ℕ) : Type 0 where
  pub unpinned : IsPinned c.pins j → ⊥
  pub others : 2 ≤ length c.versions
  pub settled : c.updating ≡ true → suc j < length c.versions
  pub below : c.updating ≡ true → 3 ≤ length c.versions

-- where an entry stands, and its row
abbrev pub position_and_row : Entry → Pos × Option Row
position_and_row e = (e.position, e.row)

-- what is done to a version changes none of its rows, and no position of its entries
abbrev pub KeepsRows : (Version → Version) → Type 0
KeepsRows f = (v : Version) → ((f v).statics ≡ v.statics) × (map position_and_row (f v).entries ≡ map position_and_row v.entries)

-- what holds of a chain and of its version of a number
abbrev pub OfVersion : Memory → ℕ → ℕ → (KeptChain → Version → Type 0) → Type 0
OfVersion m id j P = (k : KeptChain) (v : Version) → chain_at m id ≡ Some k → IsVersionAt k.chain.versions j v → P k v
