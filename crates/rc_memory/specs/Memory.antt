-- What a shard keeps in memory, as its users see it.
--     KeptChain     a chain of versions, and the cleaner's mark on it
--     Member        where an object of a chain stands: its chain, its version, and its position there
--     Memory        all chains, the recency list, the numbers of dropped chains, the counts; beside them the region, and which of its objects hold the chains
--     IsMemberObject          an object of the region stands there
--     IsUntouched   the chains, the recency list and all else but the region is as it was
use Rattle.std.specs.Prelude.{◌≡◌, ◌<◌, ◌+◌, ◌-◌, ◌^◌, min, ℕ, suc, Bool, true, false, List, [], ◌∷◌, ◌++◌, Option, Some, None, IsSome, IfSome, IsSomeAnd, option_map, cond, length, map, slice_index_or, Contains, zero, nat_eq, take, drop}
use Rattle.rc_position.specs.declared.positions.Pos.{Pos}
use Rattle.lsa_store.specs.declared.place.Ref.{Ref}
use Rattle.lsa_region.specs.declared.end.Root.{Root}
use Rattle.rc_registry.specs.ChainKind.{ChainKind}
use Rattle.lsa_region.specs.Region.{View}
use Rattle.rc_partition.specs.Entries.{IsEntryAtPosition}
use Rattle.rc_registry.specs.Chains.{Shown}
use Rattle.rc_registry.specs.Steps.{free_number, on_version, pin_at, pins_with, pins_without, all_but, number_after_removal}
use Rattle.rc_registry.specs.Version.{Version}
use Rattle.rc_partition.specs.Versions.{IsStaticsOf}
use Rattle.rc_partition.specs.Partitions.{PartitionEntry, StandingVersion, partition_as, partition_of}
use Rattle.rc_registry.specs.Registry.{put_at_number, IsAfter}
use Rattle.rc_memory.specs.declared.counts.Counts.{Counts}

-- a chain of versions, and the cleaner's mark that it left the chain unmerged
pub record KeptChain : Type 0 where
  pub chain : Shown
  pub passed : Bool

-- where an object of a chain stands: the number of the chain, that of the version, counted from the oldest, and the position of an entry, or none of the static row
pub record Member : Type 0 where
  pub chain : ℕ
  pub version : ℕ
  pub position : Option Pos

-- by its number each chain; the recency list, the least recent first; the numbers of chains that were dropped and not yet told, the first one first; the counts; the region, and by
-- the number of a chain its versions as they stand there
pub record Memory : Type 0 where
  pub chains : List (Option KeptChain)
  pub recency : List Member
  pub dropped : List ℕ
  pub counts : Counts
  pub region : View
  pub standing : List (Option PartitionEntry)

-- the chain of a number; None where there is none
abbrev pub chain_at : Memory → ℕ → Option KeptChain
chain_at m id = slice_index_or m.chains id None

-- there is a chain of this number
abbrev pub HasChain : Memory → ℕ → Type 0
HasChain m id = IsSome (chain_at m id)

-- there is, and it has a version of this number
abbrev pub HasVersion : Memory → ℕ → ℕ → Type 0
HasVersion m id j = IsSomeAnd (chain_at m id) (λ k. j < length k.chain.versions)

-- this is the least number of a chain after the given one
pub record IsNextChain (m : Memory) (after : Option ℕ) (id : ℕ) : Type 0 where
  pub there : HasChain m id
  pub behind : IsAfter after id
  pub least : (n : ℕ) → IsAfter after n → n < id → chain_at m n ≡ None

-- of these versions the one of a number, counted from the oldest
pub record IsVersionAt {X : Type 0} (versions : List X) (j : ℕ) (v : X) : Type 0 where
  pub older : List X
  pub newer : List X
  pub split : versions ≡ older ++ (v ∷ newer)
  pub number : length older ≡ j

-- an object of a version as it stands in the region: its static row, or its entry at a position
abbrev pub IsOfVersion : View → StandingVersion → Option Pos → Ref → Type 0
IsOfVersion v s None r = IsStaticsOf v s.object r
IsOfVersion v s (Some x) r = Contains s.entries r × IsEntryAtPosition v r x

-- an object of the region stands at this place, where these chains stand in it
pub record IsObjectAt (v : View) (standing : List (Option PartitionEntry)) (r : Ref) (w : Member) : Type 0 where
  pub partition : PartitionEntry
  pub version : StandingVersion
  pub chain : slice_index_or standing w.chain None ≡ Some partition
  pub number : IsVersionAt partition.versions w.version version
  pub object : IsOfVersion v version w.position r

-- an object of the region stands at this place
abbrev pub IsMemberObject : Memory → Ref → Member → Type 0
IsMemberObject m r w = IsObjectAt m.region m.standing r w

-- an object of the region is the version of this number of a chain
abbrev pub IsVersionObject : Memory → ℕ → ℕ → Ref → Type 0
IsVersionObject m id j n = IsSomeAnd (slice_index_or m.standing id None) (λ p. (s : StandingVersion) × IsVersionAt p.versions j s × (s.object ≡ n))

-- all but the region is as it was: objects may have moved
pub record IsUntouched (old new : Memory) : Type 0 where
  pub chains : new.chains ≡ old.chains
  pub recency : new.recency ≡ old.recency
  pub dropped : new.dropped ≡ old.dropped
  pub counts : new.counts ≡ old.counts

-- ---- what is done to a chain

-- something done to the chain of a number; all others are as they were
abbrev pub on_chain : ℕ → (KeptChain → KeptChain) → List (Option KeptChain) → List (Option KeptChain)
on_chain id f chains = put_at_number id (option_map f (slice_index_or chains id None)) chains

-- something done to a chain as it is shown
abbrev pub on_shown : (Shown → Shown) → KeptChain → KeptChain
on_shown f k = record { chain = f k.chain; passed = k.passed }

-- the chain with other versions
abbrev pub shown_with : List Version → Shown → Shown
shown_with versions c = record { kind = c.kind; versions = versions; attached = c.attached; updating = c.updating; pins = c.pins }

-- the chain with something done to its version of a number
abbrev pub on_version_of : ℕ → (Version → Version) → Shown → Shown
on_version_of j f c = shown_with (on_version j f c.versions) c

-- the chain with other pins
abbrev pub shown_pinned : List (Option ℕ) → Shown → Shown
shown_pinned pins c = record { kind = c.kind; versions = c.versions; attached = c.attached; updating = c.updating; pins = pins }

-- the chain no longer found by its key, and not under update
abbrev pub shown_detached : Shown → Shown
shown_detached c = record { kind = c.kind; versions = c.versions; attached = false; updating = false; pins = c.pins }

-- the chain under update, or no longer
abbrev pub shown_updating : Bool → Shown → Shown
shown_updating updating c = record { kind = c.kind; versions = c.versions; attached = c.attached; updating = updating; pins = c.pins }

-- the chain with the cleaner's mark or without it
abbrev pub mark_passed : Bool → KeptChain → KeptChain
mark_passed passed k = record { chain = k.chain; passed = passed }

-- the number of the version that a snapshot pins: of the newest one, or of the one below it while an update stands in the newest
abbrev pub snapshot_number : Shown → ℕ
snapshot_number c = cond c.updating (length c.versions - 2) (length c.versions - 1)

-- the chain with one snapshot more, of the version of a number
abbrev pub with_snapshot : ℕ → KeptChain → KeptChain
with_snapshot version k = on_shown (λ c. shown_pinned (pins_with version c.pins) c) k

-- the chain with the snapshot of a number taken back
abbrev pub without_snapshot : ℕ → KeptChain → KeptChain
without_snapshot pin k = on_shown (λ c. shown_pinned (pins_without pin c.pins) c) k

-- the memory with other chains
abbrev pub with_chains : List (Option KeptChain) → Memory → Memory
with_chains chains m = record { chains = chains; recency = m.recency; dropped = m.dropped; counts = m.counts; region = m.region; standing = m.standing }

-- the memory with other numbers to be told
abbrev pub with_dropped : List ℕ → Memory → Memory
with_dropped dropped m = record { chains = m.chains; recency = m.recency; dropped = dropped; counts = m.counts; region = m.region; standing = m.standing }

-- a snapshot of this number is there
abbrev pub HasPin : Memory → ℕ → ℕ → Type 0
HasPin m id pin = IsSomeAnd (chain_at m id) (λ k. IsSome (pin_at k.chain.pins pin))

-- a snapshot of the chain was taken: its number is the least that was free, and it has the phase of the version that it pins
pub record IsSnapshotTaken (old new : Memory) (id pin phase : ℕ) : Type 0 where
  pub number : IfSome (chain_at old id) (λ k. pin ≡ free_number k.chain.pins)
  pub version : IfSome (chain_at old id) (λ k. (v : Version) × IsVersionAt k.chain.versions (snapshot_number k.chain) v × (phase ≡ v.phase))
  pub now : new ≡ with_chains (on_chain id (λ k. with_snapshot (snapshot_number k.chain) k) old.chains) old

-- the first of the numbers to be told is told; none where there is none
abbrev pub IsTold : Memory → Memory → Option ℕ → Type 0
IsTold old new None = (old.dropped ≡ []) × (new ≡ old)
IsTold old new (Some id) = (old.dropped ≡ id ∷ new.dropped) × (new ≡ with_dropped new.dropped old)

-- no chain, nothing in the list, nothing to be told, and nothing counted
pub record IsEmpty (m : Memory) : Type 0 where
  pub chains : m.chains ≡ []
  pub recency : m.recency ≡ []
  pub dropped : m.dropped ≡ []
  pub evicted : m.counts.evicted ≡ 0
  pub skipped : m.counts.skipped ≡ 0
  pub shrunk : m.counts.shrunk ≡ 0

-- ---- counts

-- a count raised, which stays at its greatest value
abbrev pub raised_by : ℕ → ℕ → ℕ
raised_by more n = min (n + more) (2 ^ 64 - 1)

-- the memory with its counts raised
abbrev pub counts_raised : ℕ → ℕ → ℕ → Memory → Memory
counts_raised evicted skipped shrunk m = record {
  chains = m.chains;
  recency = m.recency;
  dropped = m.dropped;
  counts = record { evicted = raised_by evicted m.counts.evicted; skipped = raised_by skipped m.counts.skipped; shrunk = raised_by shrunk m.counts.shrunk };
  region = m.region;
  standing = m.standing;
}

-- ---- what is done to the region

-- the memory after objects of its region got new names
abbrev pub under_new_names : List (Ref × Ref) → View → Memory → Memory
under_new_names names region m = record { chains = m.chains; recency = m.recency; dropped = m.dropped; counts = m.counts; region = region; standing = map (option_map (partition_as names)) m.standing }

-- the memory with another recency list, in a region
abbrev pub listed_as : List Member → View → Memory → Memory
listed_as recency region m = record { chains = m.chains; recency = recency; dropped = m.dropped; counts = m.counts; region = region; standing = m.standing }

-- versions with another one at a number
abbrev pub with_standing : ℕ → StandingVersion → List StandingVersion → List StandingVersion
with_standing j t [] = []
with_standing zero t (s ∷ ss) = t ∷ ss
with_standing (suc j) t (s ∷ ss) = s ∷ with_standing j t ss

-- the versions of a partition with another one at a number
abbrev pub partition_with : ℕ → StandingVersion → PartitionEntry → PartitionEntry
partition_with j t p = partition_of p.root (with_standing j t p.versions)

-- the memory with another version of a chain at a number, as it stands in a region
abbrev pub version_changed : ℕ → ℕ → StandingVersion → View → Memory → Memory
version_changed id j t region m = record {
  chains = on_chain id (on_shown (on_version_of j (λ c. t.version))) m.chains;
  recency = m.recency;
  dropped = m.dropped;
  counts = m.counts;
  region = region;
  standing = put_at_number id (option_map (partition_with j t) (slice_index_or m.standing id None)) m.standing;
}

-- a chain of no version: found by its key, not under update, pinned by nobody
abbrev pub empty_chain : ChainKind → KeptChain
empty_chain kind = record { chain = record { kind = kind; versions = []; attached = true; updating = false; pins = [] }; passed = false }

-- the memory with such a chain more, at a root slot
abbrev pub with_new_chain : ℕ → Root → ChainKind → View → Memory → Memory
with_new_chain id root kind region m = record { chains = put_at_number id (Some (empty_chain kind)) m.chains; recency = m.recency; dropped = m.dropped; counts = m.counts; region = region; standing = put_at_number id (Some (partition_of root [])) m.standing }

-- the memory without the chain of a number, which is to be told
abbrev pub without_chain : ℕ → View → Memory → Memory
without_chain id region m = record { chains = put_at_number id None m.chains; recency = m.recency; dropped = m.dropped ++ (id ∷ []); counts = m.counts; region = region; standing = put_at_number id None m.standing }

-- ---- versions that come and go

-- the versions of a partition with one over them
abbrev pub partition_and : StandingVersion → PartitionEntry → PartitionEntry
partition_and t p = partition_of p.root (p.versions ++ (t ∷ []))

-- the versions of a partition without the one of a number
abbrev pub partition_without : ℕ → PartitionEntry → PartitionEntry
partition_without j p = partition_of p.root (take j p.versions ++ drop (suc j) p.versions)

-- the chain without the version of a number: the newer ones, and the pins of these, have numbers less by one
abbrev pub shown_without : ℕ → Shown → Shown
shown_without j c = record { kind = c.kind; versions = all_but j c.versions; attached = c.attached; updating = c.updating; pins = map (option_map (number_after_removal j)) c.pins }

-- the place of an object once the version of a number of a chain is gone
abbrev pub renumbered_member : ℕ → ℕ → Member → Member
renumbered_member id j w = record { chain = w.chain; version = cond (nat_eq w.chain id) (number_after_removal j w.version) w.version; position = w.position }

-- the memory with a version over those of a chain, as it stands in a region
abbrev pub more_versions : ℕ → StandingVersion → View → Memory → Memory
more_versions id t region m = record {
  chains = on_chain id (on_shown (λ c. shown_with (c.versions ++ (t.version ∷ [])) c)) m.chains;
  recency = m.recency;
  dropped = m.dropped;
  counts = m.counts;
  region = region;
  standing = put_at_number id (option_map (partition_and t) (slice_index_or m.standing id None)) m.standing;
}

-- the memory without the version of a number of a chain
abbrev pub fewer_versions : ℕ → ℕ → View → Memory → Memory
fewer_versions id j region m = record {
  chains = on_chain id (on_shown (shown_without j)) m.chains;
  recency = map (renumbered_member id j) m.recency;
  dropped = m.dropped;
  counts = m.counts;
  region = region;
  standing = put_at_number id (option_map (partition_without j) (slice_index_or m.standing id None)) m.standing;
}

-- the memory with a chain more, of one version as it stands in a region, at a root slot
abbrev pub chain_made : ℕ → Root → ChainKind → StandingVersion → View → Memory → Memory
chain_made id root kind t region m = more_versions id t region (with_new_chain id root kind region m)

-- ---- updates

-- the memory with a chain under update, which stands in a version over the others
abbrev pub update_begun : ℕ → StandingVersion → View → Memory → Memory
update_begun id t region m = with_chains (on_chain id (on_shown (shown_updating true)) (more_versions id t region m).chains) (more_versions id t region m)

-- the memory with a chain no longer under update
abbrev pub update_ended : ℕ → Memory → Memory
update_ended id m = with_chains (on_chain id (on_shown (shown_updating false)) m.chains) m

-- the memory with a chain no longer found by its key, and not under update
abbrev pub chain_detached : ℕ → Memory → Memory
chain_detached id m = with_chains (on_chain id (on_shown shown_detached) m.chains) m
