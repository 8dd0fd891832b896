-- How chains are kept: a table of their use, their versions in the region, and the list through these.
--     AreKept       the chains are those of a table, and of versions at the root slots that it names
--     IsLiveInChains     what is live is what all chains take
--     IsSoundChain       what each chain keeps: snapshots pin versions that it has, and nobody pins the one under update
--     HoldMemory        region, list, table and counts hold this memory
--     IsMemory      and it keeps its rules
use Rattle.std.specs.Prelude.{◌≡◌, ◌<◌, ◌≤◌, ◌+◌, ℕ, suc, true, List, [], ◌∷◌, Option, Some, None, IfSome, length, map, sum_by, ⊤}
use Rattle.lsa_store.specs.declared.place.Ref.{Ref}
use Rattle.lsa_region.specs.Region.{View, slots_of, IsWell, live_bytes}
use Rattle.rc_partition.specs.List.{List as Slots}
use Rattle.rc_registry.specs.ChainKind.TheVariants.{Cache}
use Rattle.rc_registry.specs.Chains.{Shown, IsPinned}
use Rattle.rc_partition.specs.Partitions.{PartitionEntry, AreStanding}
use Rattle.rc_registry.specs.declared.uses.Use.{Use}
use Rattle.rc_registry.specs.Registry.{Registry}
use Rattle.rc_memory.specs.declared.counts.Counts.{Counts}
use Rattle.rc_memory.specs.Memory.{KeptChain, Member, Memory, IsObjectAt, chain_at}
use Rattle.rc_memory.specs.Recency.{IsRecency}
use Rattle.rc_memory.specs.Room.{ChainsFit, chain_bytes}

-- the chain of a use and of versions
abbrev pub chain_of_use : Use → PartitionEntry → KeptChain
chain_of_use u p = record {
  chain = record { kind = u.kind; versions = map (λ s. s.version) p.versions; attached = u.attached; updating = u.updating; pins = u.pins };
  passed = u.passed;
}

-- a chain is there where its use and its versions are, and these stand at the root slot of the use
abbrev pub IsKeptChain : Option Use → Option PartitionEntry → Option KeptChain → Type 0
IsKeptChain None None c = c ≡ None
IsKeptChain None (Some p) c = ⊥
IsKeptChain (Some u) None c = ⊥
IsKeptChain (Some u) (Some p) c = (p.root ≡ u.root) × (c ≡ Some (chain_of_use u p))

-- so for each number
abbrev pub AreKept : List (Option Use) → List (Option PartitionEntry) → List (Option KeptChain) → Type 0
AreKept [] [] [] = ⊤
AreKept [] [] (c ∷ cs) = ⊥
AreKept [] (p ∷ ps) cs = ⊥
AreKept (u ∷ us) [] cs = ⊥
AreKept (u ∷ us) (p ∷ ps) [] = ⊥
AreKept (u ∷ us) (p ∷ ps) (c ∷ cs) = IsKeptChain u p c × AreKept us ps cs

-- what is there of a list
abbrev pub present : {X : Type 0} → List (Option X) → List X
present [] = []
present (None ∷ xs) = present xs
present (Some x ∷ xs) = x ∷ present xs

-- what is live in the region is what all chains take
abbrev pub IsLiveInChains : Memory → Type 0
IsLiveInChains m = live_bytes m.region ≡ sum_by chain_bytes (present m.chains)

-- each object stands at the place beside it
abbrev pub StandAt : View → List (Option PartitionEntry) → List Ref → List Member → Type 0
StandAt v standing [] [] = ⊤
StandAt v standing [] (w ∷ ws) = ⊥
StandAt v standing (r ∷ refs) [] = ⊥
StandAt v standing (r ∷ refs) (w ∷ ws) = IsObjectAt v standing r w × StandAt v standing refs ws

-- a chain has a version; snapshots pin versions that it has; and one under update is an attached cache chain, whose newest version nobody pins and is not the only one
pub record IsSoundChain (c : Shown) : Type 0 where
  pub some : 0 < length c.versions
  pub pins : (j : ℕ) → IsPinned c.pins j → j < length c.versions
  pub cached : c.updating ≡ true → c.kind ≡ Cache
  pub attached : c.updating ≡ true → c.attached ≡ true
  pub below : c.updating ≡ true → 2 ≤ length c.versions
  pub unpinned : c.updating ≡ true → (j : ℕ) → IsPinned c.pins j → suc j < length c.versions

-- region, recency list, table and counts hold this memory; two root slots are of the recency list, and one of each chain
pub record HoldMemory (slots : Slots) (v : View) (registry : Registry) (counts : Counts) (m : Memory) : Type 0 where
  pub well : IsWell v
  pub region : m.region ≡ v
  pub kept : AreKept registry.uses m.standing m.chains
  pub listed : List Ref
  pub stands : AreStanding slots v (present m.standing) listed
  pub recency : StandAt v m.standing listed m.recency
  pub dropped : m.dropped ≡ registry.dropped
  pub counted : m.counts ≡ counts
  pub roots : (slots_of v).there ≡ 2 + length (present m.chains)

-- and it keeps the rules of a memory: each chain is sound, the recency list holds what it must, and objects that may be joined fit a segment's eighth
pub record IsMemory (S : ℕ) (slots : Slots) (v : View) (registry : Registry) (counts : Counts) (m : Memory) : Type 0 where
  pub held : HoldMemory slots v registry counts m
  pub sound : (id : ℕ) → IfSome (chain_at m id) (λ k. IsSoundChain k.chain)
  pub rule : IsRecency m
  pub fit : ChainsFit S m

-- some memory is these, and no other is (`one-memory`)
abbrev pub HasMemory : ℕ → Slots → View → Registry → Counts → Type 0
HasMemory S slots v registry counts = (m : Memory) × ∥ IsMemory S slots v registry counts m ∥₁
