-- The versions of partitions in one region, and the recency list through their entries and static rows.
--     StandingVersion, PartitionEntry     a version as it stands in a region, and a partition's versions at their root slot
--     IsPartitionEntry                    they stand there: the slot leads through the versions, and each is what it is
--     AreStanding                         all partitions of a region with the recency list, and nothing else
--     partition_objects                   how many objects a partition takes
use Rattle.std.specs.Prelude.{◌≡◌, ◌≢◌, ◌⊎◌, ℕ, ◌+◌, List, ◌∷◌, ◌++◌, map, reverse, length, sum_by, Contains, AllPairs, Option, Some, None}
use Rattle.rc_cell.specs.declared.rows.Row.{Row}
use Rattle.lsa_store.specs.declared.place.Ref.{Ref}
use Rattle.lsa_region.specs.Ends.{named_as}
use Rattle.lsa_region.specs.declared.end.End.TheVariants.{Slot}
use Rattle.lsa_region.specs.declared.end.Root.{Root}
use Rattle.lsa_region.specs.Region.{View, link_of, live_bytes, IsEnd}
use Rattle.lsa_path.specs.Path.{IsPath}
use Rattle.lsa_list.specs.declared.recency.List.{List as Slots}
use Rattle.lsa_list.specs.Recency.{IsList}
use Rattle.rc_core.specs.Version.{Version}
use Rattle.rc_version.specs.Versions.{IsVersionOf, IsStaticsOf, IsUnlisted, version_bytes}

-- a version as it stands in a region: its object, those of its entries in order, and what it is
pub record StandingVersion : Type 0 where
  pub object : Ref
  pub entries : List Ref
  pub version : Version

-- a version that stands there
abbrev pub standing : Ref → List Ref → Version → StandingVersion
standing object entries version = record { object = object; entries = entries; version = version }

-- the versions of a partition, the oldest first, and the root slot that leads to the newest
pub record PartitionEntry : Type 0 where
  pub root : Root
  pub versions : List StandingVersion

-- a partition of these versions
abbrev pub partition_of : Root → List StandingVersion → PartitionEntry
partition_of root versions = record { root = root; versions = versions }

-- the objects of versions
abbrev pub heads_of : List StandingVersion → List Ref
heads_of versions = map (λ s. s.object) versions

-- the root slots of partitions
abbrev pub roots_of : List PartitionEntry → List Root
roots_of partitions = map (λ p. p.root) partitions

-- from its root slot the versions of a partition stand in the region, the newest first
pub record IsPartitionEntry (v : View) (p : PartitionEntry) : Type 0 where
  pub slot : IsEnd v (Slot p.root)
  pub chain : IsPath 1 0 (link_of v) (Slot p.root) (reverse (heads_of p.versions)) None
  pub versions : (s : StandingVersion) → Contains p.versions s → IsVersionOf v s.object s.entries s.version

-- the object is an entry of the version or its static row
abbrev pub IsRowOfVersion : View → StandingVersion → Ref → Type 0
IsRowOfVersion v s r = Contains s.entries r ⊎ IsStaticsOf v s.object r

-- the object is an entry or a static row of one of the partitions
abbrev pub IsRowOfAny : View → List PartitionEntry → Ref → Type 0
IsRowOfAny v partitions r = (p : PartitionEntry) × (s : StandingVersion) × Contains partitions p × Contains p.versions s × IsRowOfVersion v s r

-- how many bytes a partition takes
abbrev pub partition_bytes : PartitionEntry → ℕ
partition_bytes p = sum_by (λ s. version_bytes s.version) p.versions

-- how many objects a static row takes
abbrev pub static_objects : Option Row → ℕ
static_objects None = 0
static_objects (Some row) = 1

-- how many objects a version takes: its head, its static row and its entries
abbrev pub version_objects : Version → ℕ
version_objects c = 1 + (static_objects c.statics + length c.entries)

-- how many objects a partition takes
abbrev pub partition_objects : PartitionEntry → ℕ
partition_objects p = sum_by (λ s. version_objects s.version) p.versions

-- These partitions stand in the region, each at a root slot of its own, and the recency list leads through these objects, which are entries and static rows of theirs; any other entry or static
-- row is in no list. Nothing leaks: what is live is what the versions take.
pub record AreStanding (slots : Slots) (v : View) (partitions : List PartitionEntry) (listed : List Ref) : Type 0 where
  pub apart : AllPairs ◌≢◌ (roots_of partitions)
  pub beside : (p : PartitionEntry) → Contains partitions p → (p.root ≢ slots.front) × (p.root ≢ slots.back)
  pub entries : (p : PartitionEntry) → Contains partitions p → IsPartitionEntry v p
  pub list : IsList slots v listed
  pub owned : (r : Ref) → Contains listed r → IsRowOfAny v partitions r
  pub unlisted : (r : Ref) → IsRowOfAny v partitions r → (Contains listed r → ⊥) → IsUnlisted v r
  pub whole : live_bytes v ≡ sum_by partition_bytes partitions

-- one version among those of a partition, and this among the partitions
abbrev pub among : List PartitionEntry → Root → List StandingVersion → StandingVersion → List StandingVersion → List PartitionEntry → List PartitionEntry
among front root older s newer back = front ++ (partition_of root (older ++ (s ∷ newer)) ∷ back)

-- a version under the new names of the objects
abbrev pub version_as : List (Ref × Ref) → StandingVersion → StandingVersion
version_as names s = standing (named_as names s.object) (map (named_as names) s.entries) s.version

-- a partition under the new names of the objects
abbrev pub partition_as : List (Ref × Ref) → PartitionEntry → PartitionEntry
partition_as names p = partition_of p.root (map (version_as names) p.versions)
