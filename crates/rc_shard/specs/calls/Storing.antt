-- What calls keep of what was written, what a write adds, and how the sealed writes become a table.
--     KeepsUnstored, TakesWrite        what calls keep, and what a write adds to it
--     KeepsWritten                     what a partition that leaves the row cache leaves of what was written
--     IsTableStored, IsFlushAnswered   how the sealed writes become a table
use Rattle.std.specs.Prelude.{◌≡◌, ◌⊎◌, ◌≤◌, ◌+◌, ◌++◌, ◌∷◌, ℕ, List, [], Option, length}
use Rattle.rc_outside.specs.Files.{Files}
use Rattle.rc_schema.specs.SchemaValue.{SchemaValue}
use Rattle.rc_mutation.specs.declared.mutations.Partition.{Partition}
use Rattle.rc_mutation.specs.declared.mutations.Write.{Write}
use Rattle.rc_mutation.specs.Fragments.{IsParts}
use Rattle.rc_writes.specs.Weight.{weight}
use Rattle.rc_lines.specs.declared.commands.Refusal.TheVariants.{WriteFault}
use Rattle.rc_lines.specs.declared.commands.Reply.{Reply}
use Rattle.rc_lines.specs.declared.commands.Reply.TheVariants as replies
use Rattle.rc_snapshots.specs.Seeing.{AllStillSee, NothingIsLost}
use Rattle.rc_lookup.specs.Unstored.{Unstored}
use Rattle.rc_lookup.specs.Memtables.{HaveWrites}
use Rattle.rc_lookup.specs.LetGo.{NoCountFell, TakesNoMore}
use Rattle.rc_lookup.specs.Footprint.{memtable_bytes}
use Rattle.rc_folder.specs.Tabled.{IsTableAdded}
use Rattle.rc_shard.specs.declared.shard.Shard.{Shard}
use Rattle.rc_shard.specs.calls.Caching.{Forgets, KeepsCache, LeavesCache}

-- what was written stays under a schema, and so do what memtables' snapshots see and what the row cache has, in a region of as many segments, in which no more is live and memtables take no more
pub record KeepsUnstored (schema : SchemaValue) (old new : Unstored 131072) : Type 0 where
  pub stands : (writes later : List Write) → HaveWrites schema old writes later → HaveWrites schema new writes later
  pub seen : AllStillSee old.chains new.chains
  pub room : TakesNoMore old.chains new.chains
  pub cache : KeepsCache old.chains new.chains

-- a write stands behind the later ones, and memtables take more by at most its weight; what memtables' snapshots see stays, and so does what the row cache has, in a region of as many segments
pub record TakesWrite (schema : SchemaValue) (w : Write) (old new : Unstored 131072) : Type 0 where
  pub stands : (writes later : List Write) → HaveWrites schema old writes later → HaveWrites schema new writes (later ++ w ∷ [])
  pub seen : AllStillSee old.chains new.chains
  pub budget : length new.chains.region.usages ≡ length old.chains.region.usages
  pub counts : NoCountFell old.chains new.chains
  pub cache : LeavesCache old.chains new.chains
  pub bytes : memtable_bytes new.chains ≤ memtable_bytes old.chains + weight w.change

-- what was written stays, whatever the schema, and so does what snapshots see, in a region of as many segments, and no count is less
pub record KeepsWritten (old new : Unstored 131072) : Type 0 where
  pub stands : (schema : SchemaValue) (writes later : List Write) → HaveWrites schema old writes later → HaveWrites schema new writes later
  pub seen : NothingIsLost old.chains new.chains
  pub budget : length new.chains.region.usages ≡ length old.chains.region.usages
  pub counts : NoCountFell old.chains new.chains

-- the sealed writes stand in table n, and no longer in memory; its partitions left the row cache
pub record IsTableStored (files : Option Files) (k : Shard) (n : ℕ) (files' : Option Files) (k' : Shard) : Type 0 where
  pub parts : List Partition
  pub of_writes : (schema : SchemaValue) (writes later : List Write) → HaveWrites schema k.unstored writes later → IsParts parts writes
  pub added : IsTableAdded files k.folder n parts files' k'.folder
  pub gone : (schema : SchemaValue) (writes later : List Write) → HaveWrites schema k.unstored writes later → HaveWrites schema k'.unstored [] later
  pub seen : AllStillSee k.unstored.chains k'.unstored.chains
  pub budget : length k'.unstored.chains.region.usages ≡ length k.unstored.chains.region.usages
  pub counts : NoCountFell k.unstored.chains k'.unstored.chains
  pub cache : Forgets parts k.cache.entries k'.cache.entries k.unstored.chains k'.unstored.chains

-- the reply to a flush: the sealed writes stand in table n, or the store failed and they are still sealed
abbrev pub IsFlushAnswered : Option Files → Shard → ℕ → Option Files → Shard → Reply → Type 0
IsFlushAnswered files k n files' k' reply =
    ((reply ≡ replies.Fine) × IsTableStored files k n files' k') ⊎ ((reply ≡ replies.Refused WriteFault) × (k'.folder ≡ k.folder) × (k'.cache ≡ k.cache) × KeepsUnstored k.folder.schema k.unstored k'.unstored × (files' ≡ files))
