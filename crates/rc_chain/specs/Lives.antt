-- What becomes of a chain as a whole: it comes to be, gets a version, is settled, is detached, loses a version, and is dropped.
--     IsChainMade       a chain of one version came to be
--     IsVersionAdded    a version that says nothing was put over those of a chain
--     IsEndListed       the recency list once an update has ended
--     IsVersionDropped  a version is gone
--     IsChainDropped    a chain is gone, and its number is to be told
use Rattle.std.specs.Prelude.{◌≡◌, ◌⊎◌, ℕ, suc, Bool, true, false, List, [], ◌∷◌, ◌++◌, Option, Some, None, length, AllPairs, Contains, map as list_map, option_map, cond, ◌<◌, ◌≤◌, IsSome, IsSomeAnd}
use Rattle.std.specs.Option.{option_to_list}
use Rattle.lsa_store.specs.declared.place.Ref.{Ref}
use Rattle.lsa_region.specs.Region.{SameButRoots}
use Rattle.rc_cell.specs.declared.writes.Tomb.{Tomb}
use Rattle.rc_position.specs.declared.positions.Pos.{Pos}
use Rattle.rc_core.specs.declared.entries.ChainKind.{ChainKind}
use Rattle.rc_core.specs.declared.entries.ChainKind.TheVariants.{Cache, Memtable}
use Rattle.rc_core.specs.declared.entries.Entry.{Entry}
use Rattle.rc_core.specs.declared.entries.Flag.{Flag}
use Rattle.rc_core.specs.declared.entries.Flag.TheVariants.{Inherit, Unknown}
use Rattle.rc_core.specs.AtPlace.{HasEntryAt}
use Rattle.rc_core.specs.Chains.{Shown}
use Rattle.rc_core.specs.Free.{free_entry, free_statics}
use Rattle.rc_core.specs.Steps.{on_newest, version_of, with_phase}
use Rattle.rc_core.specs.Version.{Version, end_position}
use Rattle.rc_registry.specs.Registry.{AreFree, IsNumberIn, put_at_number}
use Rattle.rc_memory.specs.Memory.{KeptChain, Member, Memory, IsMemberObject, IsVersionAt, chain_at, listed_as, on_chain, on_shown, renumbered_member, shown_with, shown_without}
use Rattle.rc_memory.specs.Recency.{IsLastInner}
use Rattle.rc_memory.specs.Changes.{AtAlone, IsUnmoved, IsVersionChanged, IsWithout, Nowhere, OfVersion, StandStill, member_at}

-- the flag of all that the version of a new chain says: nothing is known in a cache chain, and in a memtable's nothing is said
abbrev pub flag_of_new : ChainKind → Flag
flag_of_new Memtable = Inherit
flag_of_new Cache = Unknown

-- a new chain: one version, of its end dummy alone; found by its key, not under update, pinned by nobody
abbrev pub chain_of_new : ChainKind → Option Tomb → ℕ → KeptChain
chain_of_new kind pt phase = record { chain = record { kind = kind; versions = version_of (flag_of_new kind) pt phase ∷ []; attached = true; updating = false; pins = [] }; passed = false }

-- of a version its end dummy alone is left
pub record IsEndAlone (v : Version) : Type 0 where
  pub statics : v.statics ≡ None
  pub alone : (e : Entry) × (v.entries ≡ e ∷ [])

-- the list with the end dummy of a cache chain's version at its back
abbrev pub with_end_listed : ChainKind → ℕ → ℕ → List Member → List Member
with_end_listed Memtable id j list = list
with_end_listed Cache id j list = list ++ (member_at id j (Some end_position) ∷ [])

-- such a chain came to be, whose number no other chain has, nor one that is to be told; the list is this
pub record IsChainMade (id : ℕ) (kind : ChainKind) (pt : Option Tomb) (phase : ℕ) (list : List Member) (old new : Memory) : Type 0 where
  pub vacant : chain_at old id ≡ None
  pub told : IsNumberIn old.dropped id → ⊥
  pub chains : new.chains ≡ put_at_number id (Some (chain_of_new kind pt phase)) old.chains
  pub recency : new.recency ≡ list
  pub dropped : new.dropped ≡ old.dropped
  pub counts : new.counts ≡ old.counts
  pub still : StandStill Nowhere old new
  pub region : IsUnmoved old.region new.region

-- all is as it was, but for root slots that nothing stands at
pub record IsSameButSlots (old new : Memory) : Type 0 where
  pub same : new ≡ listed_as old.recency new.region old
  pub region : SameButRoots old.region new.region

-- a chain of this kind is one of a cache
abbrev pub is_cache : ChainKind → Bool
is_cache Memtable = false
is_cache Cache = true

-- the chain with a version over its others that says nothing; a cache chain is under update then
abbrev pub with_version_over : ℕ → Shown → Shown
with_version_over phase c = record { kind = c.kind; versions = c.versions ++ (version_of Inherit None phase ∷ []); attached = c.attached; updating = is_cache c.kind; pins = c.pins }

-- the chain of a number is another one; the list, the numbers to be told and the counts are as they were, and no object moved or went
pub record IsChainChanged (id : ℕ) (f : KeptChain → KeptChain) (list : List Member) (old new : Memory) : Type 0 where
  pub chains : new.chains ≡ on_chain id f old.chains
  pub recency : new.recency ≡ list
  pub dropped : new.dropped ≡ old.dropped
  pub counts : new.counts ≡ old.counts
  pub still : StandStill Nowhere old new
  pub region : IsUnmoved old.region new.region

-- the place of the last entry before the end of a version, where that is out of the list
abbrev pub IsLastUnlisted : ℕ → ℕ → Version → List Member → Option Member → Type 0
IsLastUnlisted id j v list None = (at : Option Pos) → IsLastInner v at → Contains list (member_at id j at)
IsLastUnlisted id j v list (Some w) = (at : Option Pos) × IsLastInner v at × (w ≡ member_at id j at) × (Contains list w → ⊥)

-- The list once no update stands in a chain any more. Where one stood in its newest version, the entry at the update's place, if it was out of the list, and then the end dummy are the most recent ones.
pub record IsEndListed (id : ℕ) (c : Shown) (old new : List Member) : Type 0 where
  pub settled : c.updating ≡ false → new ≡ old
  pub updated : c.updating ≡ true → (j : ℕ) (v : Version) → suc j ≡ length c.versions → IsVersionAt c.versions j v → (last : Option Member) × IsLastUnlisted id j v old last × (new ≡ (old ++ option_to_list last) ++ (member_at id j (Some end_position) ∷ []))

-- the newest version of a chain that is found by its key has a phase
abbrev pub relabelled_chain : ℕ → KeptChain → KeptChain
relabelled_chain phase k = cond k.chain.attached (on_shown (λ c. shown_with (on_newest (with_phase phase) c.versions) c) k) k

-- so of each chain; all else is as it was
pub record IsRelabelled (phase : ℕ) (old new : Memory) : Type 0 where
  pub chains : new.chains ≡ list_map (option_map (relabelled_chain phase)) old.chains
  pub recency : new.recency ≡ old.recency
  pub dropped : new.dropped ≡ old.dropped
  pub counts : new.counts ≡ old.counts
  pub still : StandStill Nowhere old new
  pub region : IsUnmoved old.region new.region

-- the version of a number of a chain is gone, and with it its end dummy, which was the last of its objects; newer ones have numbers less by one, and the places of their objects with them
pub record IsVersionDropped (id j : ℕ) (old new : Memory) : Type 0 where
  pub chains : new.chains ≡ on_chain id (on_shown (shown_without j)) old.chains
  pub recency : (list : List Member) × IsWithout (member_at id j (Some end_position)) old.recency list × (new.recency ≡ list_map (renumbered_member id j) list)
  pub dropped : new.dropped ≡ old.dropped
  pub counts : new.counts ≡ old.counts
  pub objects : (r : Ref) (w : Member) → IsMemberObject old r w → (w.chain ≡ id → w.version ≡ j → ⊥) → IsMemberObject new r (renumbered_member id j w)
  pub region : IsUnmoved old.region new.region

-- a chain is gone, of which only end dummies were left, and its number is to be told; the list is this
pub record IsChainDropped (id : ℕ) (list : List Member) (old new : Memory) : Type 0 where
  pub chains : new.chains ≡ put_at_number id None old.chains
  pub recency : new.recency ≡ list
  pub dropped : new.dropped ≡ old.dropped ++ (id ∷ [])
  pub counts : new.counts ≡ old.counts
  pub objects : (r : Ref) (w : Member) → IsMemberObject old r w → (w.chain ≡ id → ⊥) → IsMemberObject new r w
  pub region : IsUnmoved old.region new.region

-- a cache chain that nobody pins, in which no update stands, and of which no object is listed: it is to be dropped
pub record IsIdle (m : Memory) (id : ℕ) (c : Shown) : Type 0 where
  pub cached : c.kind ≡ Cache
  pub settled : c.updating ≡ false
  pub unpinned : AreFree c.pins
  pub unlisted : (j : ℕ) (at : Option Pos) → Contains m.recency (member_at id j at) → ⊥

-- the last entry before the end of the oldest version was freed
pub record IsEntryFreed (id : ℕ) (old new : Memory) : Type 0 where
  pub at : Pos
  pub there : OfVersion old id 0 (λ k v. HasEntryAt at v.entries)
  pub inner : at ≡ end_position → ⊥
  pub last : OfVersion old id 0 (λ k v. IsLastInner v (Some at))
  pub changed : (k : KeptChain) → chain_at old id ≡ Some k → IsVersionChanged id 0 (free_entry k.chain.kind at) (AtAlone (member_at id 0 (Some at))) old new
  pub recency : IsWithout (member_at id 0 (Some at)) old.recency new.recency

-- its static row was freed, where no entry stands before the end
pub record IsStaticFreed (id : ℕ) (old new : Memory) : Type 0 where
  pub there : OfVersion old id 0 (λ k v. IsSome v.statics)
  pub alone : OfVersion old id 0 (λ k v. (at : Option Pos) → IsLastInner v at → ⊥)
  pub changed : (k : KeptChain) → chain_at old id ≡ Some k → IsVersionChanged id 0 (free_statics k.chain.kind) (AtAlone (member_at id 0 None)) old new
  pub recency : IsWithout (member_at id 0 None) old.recency new.recency

-- the chain was dropped, of which the end dummy of one version was left
pub record IsLastDropped (id : ℕ) (old new : Memory) : Type 0 where
  pub list : List Member
  pub recency : IsWithout (member_at id 0 (Some end_position)) old.recency list
  pub dropped : IsChainDropped id list old new

-- of the oldest version of a chain the last entry before the end was freed; where none was there, its static row; where its end dummy alone was left, the version itself with it, or with both the chain, of which it was the last version
abbrev pub IsOneFreed : ℕ → Memory → Memory → Type 0
IsOneFreed id old new = IsEntryFreed id old new ⊎ (IsStaticFreed id old new ⊎ (IsSomeAnd (chain_at old id) (λ k. (v : Version) × IsVersionAt k.chain.versions 0 v × IsEndAlone v) × (IsVersionDropped id 0 old new ⊎ IsLastDropped id old new)))

-- what is left of a list without its members at these places, in its order
abbrev pub IsRemainder : (Member → Type 0) → List Member → List Member → Type 0
IsRemainder these [] rest = rest ≡ []
IsRemainder these (w ∷ ws) rest = (these w × IsRemainder these ws rest) ⊎ ((these w → ⊥) × ((more : List Member) × (rest ≡ w ∷ more) × IsRemainder these ws more))

-- the objects at these places that were in the list went to its back, those of older versions first; all others stand before them as they stood
pub record IsTouched (these : Member → Type 0) (old new : List Member) : Type 0 where
  pub rest : List Member
  pub touched : List Member
  pub split : new ≡ rest ++ touched
  pub left : IsRemainder these old rest
  pub mine : (w : Member) → Contains touched w → these w × Contains old w
  pub all : (w : Member) → Contains old w → these w → Contains touched w
  pub ascending : AllPairs (λ (a b : Member). a.version < b.version) touched

-- a place is that of the entry at a position, in a version of a chain up to one
abbrev pub IsAtUpTo : ℕ → ℕ → Pos → Member → Type 0
IsAtUpTo id j x w = (w.chain ≡ id) × (w.version ≤ j) × (w.position ≡ Some x)
