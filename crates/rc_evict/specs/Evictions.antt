-- What eviction leaves of a shard's memory.
--     evicted_at, evicted_of     a version without the object at a place, and a chain without those at several places
--     IsSort                     which sort of object stands at a place
--     IsOneEvicted               the least recently used object went, and its chain with it where that is to be dropped then
--     AreEvicted                 these objects went, and these chains with them; all other chains stay, each without what went of it
--     IsRoomMade                 what making room leaves: objects may have moved, and several may have gone
--     IsPlaceUnlisted            the entry at an update's place is out of the recency list
use Rattle.std.specs.Prelude.{◌≡◌, ◌≢◌, ◌⊎◌, ◌/◌, ◌≤◌, ℕ, suc, true, List, [], ◌∷◌, ◌++◌, Option, Some, None, cond, nat_eq, length, option_map, AllPairs, Contains, IsSome, IsSomeAnd}
use Rattle.std.specs.Ordering.{eq_by_cmp}
use Rattle.lsa_region.specs.Region.{live_bytes}
use Rattle.rc_position.specs.declared.positions.Pos.{Pos}
use Rattle.rc_position.specs.Position.{Clustered, Place, pos_cmp}
use Rattle.rc_core.specs.Change.{drop_at, lose_last_gap}
use Rattle.rc_core.specs.Chains.{Shown}
use Rattle.rc_core.specs.Continuity.{with_entries, without_statics}
use Rattle.rc_core.specs.Version.{On, Version, end_position, finding_in}
use Rattle.rc_memory.specs.declared.counts.Counts.{Counts}
use Rattle.rc_memory.specs.Changes.{AtAlone, IsVersionChanged, Nowhere, OfVersion, member_at}
use Rattle.rc_memory.specs.Memory.{KeptChain, Member, Memory, chain_at, on_shown, on_version_of, raised_by}
use Rattle.rc_memory.specs.Recency.{MayBeListed}
use Rattle.rc_chain.specs.Lives.{IsChainDropped, IsIdle}
use Rattle.rc_evict.specs.Crowding.{IsCrowded, LosesWhereCrowded}
use Rattle.rc_evict.specs.declared.evicting.Evicted.{Evicted}
use Rattle.rc_evict.specs.declared.evicting.Evicted.TheVariants.{Dummy, EndDummy, Row, Static}

-- ---- one object

-- A version without the object at a place. Its static row is taken out, and its flag is Unknown; the end dummy stays, and the gap before it is lost; any other entry is taken out, and the gap before the next one is lost.
abbrev pub evicted_at : Option Pos → Version → Version
evicted_at None v = without_statics v
evicted_at (Some x) v = with_entries (cond (eq_by_cmp pos_cmp x end_position) (lose_last_gap v.entries) (drop_at x v.entries)) v

-- this sort of object stands at a place of a version that has one there
abbrev pub IsSort : Evicted → Option Pos → Version → Type 0
IsSort Row at v = (x : Pos) × (at ≡ Some x) × (x ≢ end_position) × IsSome (finding_in (On x) v.entries).row
IsSort Dummy at v = (x : Pos) × (at ≡ Some x) × (x ≢ end_position) × ((finding_in (On x) v.entries).row ≡ None)
IsSort Static at v = at ≡ None
IsSort EndDummy at v = at ≡ Some end_position

-- the places whose object is gone from the region: that of the object, but for an end dummy, which stays
abbrev pub TakenOut : Evicted → Member → Member → Type 0
TakenOut Row place = AtAlone place
TakenOut Dummy place = AtAlone place
TakenOut Static place = AtAlone place
TakenOut EndDummy place = Nowhere

-- a chain goes where it is to be dropped, and its number is to be told; else nothing is changed
abbrev pub IsSwept : ℕ → Shown → Memory → Memory → Type 0
IsSwept id c old new = (IsIdle old id c × IsChainDropped id old.recency old new) ⊎ ((IsIdle old id c → ⊥) × (new ≡ old))

-- one more eviction is counted; the count stays at 2 ^ 64 - 1
abbrev pub one_eviction_more : Counts → Counts
one_eviction_more c = record { evicted = raised_by 1 c.evicted; skipped = c.skipped; shrunk = c.shrunk }

-- the memory with one more eviction counted
abbrev pub eviction_counted : Memory → Memory
eviction_counted m = record { chains = m.chains; recency = m.recency; dropped = m.dropped; counts = one_eviction_more m.counts; region = m.region; standing = m.standing }

-- the object at the front of the recency list went, which is of this sort and stood at this place
pub record IsFrontLost (sort : Evicted) (place : Member) (old lost : Memory) : Type 0 where
  pub front : old.recency ≡ place ∷ lost.recency
  pub listed : IsSomeAnd (chain_at old place.chain) (λ k. MayBeListed k.chain place.version place.position)
  pub stood : OfVersion old place.chain place.version (λ k v. IsSort sort place.position v)
  pub changed : IsVersionChanged place.chain place.version (evicted_at place.position) (TakenOut sort place) old lost

-- so it went, was counted, and its chain went with it where that is to be dropped then; lost is the memory as it is in between
pub record IsOneEvicted (sort : Evicted) (old new : Memory) : Type 0 where
  pub place : Member
  pub lost : Memory
  pub taken : IsFrontLost sort place old lost
  pub swept : (k : KeptChain) → chain_at old place.chain ≡ Some k → IsSwept place.chain k.chain (eviction_counted lost) new

-- ---- one after another

-- a chain of this number without those of these objects that are its own, evicted one after another
abbrev pub evicted_of : ℕ → List Member → KeptChain → KeptChain
evicted_of id [] k = k
evicted_of id (w ∷ ws) k = evicted_of id ws (cond (nat_eq w.chain id) (on_shown (on_version_of w.version (evicted_at w.position)) k) k)

-- the counts after so many evictions
abbrev pub evictions_counted : List Member → Counts → Counts
evictions_counted [] c = c
evictions_counted (w ∷ ws) c = evictions_counted ws (one_eviction_more c)

-- These objects went from the front of the recency list, and these chains with them, which are to be dropped once these objects went. A chain that stays is what it was without what went of it, and if something did, it is not to be dropped.
pub record AreEvicted (went : List Member) (gone : List ℕ) (old new : Memory) : Type 0 where
  pub recency : old.recency ≡ went ++ new.recency
  pub chains : (id : ℕ) → (Contains gone id → ⊥) → chain_at new id ≡ option_map (evicted_of id went) (chain_at old id)
  pub absent : (id : ℕ) → Contains gone id → chain_at new id ≡ None
  pub idle : (id : ℕ) → Contains gone id → IsSomeAnd (chain_at old id) (λ k. IsIdle new id k.chain)
  pub cause : (id : ℕ) → Contains gone id → (w : Member) × Contains went w × (w.chain ≡ id)
  pub kept : (w : Member) (k : KeptChain) → Contains went w → (Contains gone w.chain → ⊥) → chain_at old w.chain ≡ Some k → IsIdle new w.chain k.chain → ⊥
  pub once : AllPairs ◌≢◌ gone
  pub dropped : new.dropped ≡ old.dropped ++ gone
  pub counts : new.counts ≡ evictions_counted went old.counts

-- Room was made: objects may have moved, and these objects went from the front of the recency list, and these chains with them; where any went the region is crowded, but for one object, and where none did as much is live. The region has as many segments, no more is live in it, and no count is less.
pub record IsRoomMade (S : ℕ) (old new : Memory) : Type 0 where
  pub went : List Member
  pub gone : List ℕ
  pub evicted : AreEvicted went gone old new
  pub crowded : (went ≡ []) ⊎ IsCrowded S (S / 8) 0 old new
  pub loses : LosesWhereCrowded S 0 old new
  pub budget : length new.region.usages ≡ length old.region.usages
  pub live : live_bytes new.region ≤ live_bytes old.region
  pub moved : old.region.moved ≤ new.region.moved
  pub counted : old.counts.evicted ≤ new.counts.evicted
  pub skipped : new.counts.skipped ≡ old.counts.skipped
  pub shrunk : new.counts.shrunk ≡ old.counts.shrunk

-- ---- under update

-- the entry at the place of the update that stands in a chain, where that is clustered, is out of this list
abbrev pub IsPlaceUnlisted : Place → ℕ → Shown → List Member → Type 0
IsPlaceUnlisted p id c list = (x : Pos) (j : ℕ) → p ≡ Clustered x → c.updating ≡ true → suc j ≡ length c.versions → Contains list (member_at id j (Some x)) → ⊥
