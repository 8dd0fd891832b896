-- What is read of the versions of a partition that stand in a region, up to one of them.
--     AreUpTo         they are the versions of the partition at a root slot, up to the one of a number
--     IsRowGiven      a row as a reader is given it
use Rattle.std.specs.Prelude.{◌≡◌, ◌≢◌, ℕ, List, [], ◌∷◌, ◌++◌, length, map, Option}
use Rattle.std.specs.Option.{MatchOption}
use Rattle.rc_cell.specs.declared.rows.Row.{Row}
use Rattle.rc_cell.specs.Winner.{empty_row}
use Rattle.lsa_store.specs.declared.place.Ref.{Ref}
use Rattle.lsa_region.specs.declared.end.Root.{Root}
use Rattle.lsa_region.specs.Region.{View}
use Rattle.rc_partition.specs.List.{List as Slots}
use Rattle.rc_core.specs.Version.{Version}
use Rattle.rc_partition.specs.Partitions.{AreStanding, PartitionEntry, StandingVersion, among}

-- these are the versions of the partition at the root slot, the oldest first, up to the one of the number, where all partitions stand in the region
pub record AreUpTo (v : View) (root : Root) (number : ℕ) (read : List StandingVersion) : Type 0 where
  pub slots : Slots
  pub front : List PartitionEntry
  pub older : List StandingVersion
  pub last : StandingVersion
  pub newer : List StandingVersion
  pub back : List PartitionEntry
  pub listed : List Ref
  pub stands : AreStanding slots v (among front root older last newer back) listed
  pub below : length older ≡ number
  pub are : read ≡ older ++ (last ∷ [])

-- what standing versions are
abbrev pub read_versions : List StandingVersion → List Version
read_versions read = map (λ s. s.version) read

-- a row as a reader is given it: none where it is empty
abbrev pub IsRowGiven : Option Row → Row → Type 0
IsRowGiven given row = MatchOption given (row ≡ empty_row) (λ r. (r ≡ row) × (row ≢ empty_row))
