-- What is done to memory where a reader is opened.
--     PinsPartition    a reader pins what is in memory of a partition, and nothing else is done
--     IsOnePinned      so does one more reader, once the row cache was asked
--     IsOpenedAsTold   so the shard does, where an opening is answered
use Rattle.std.specs.Prelude.{◌≡◌, ◌++◌, ◌∷◌, [], ℕ, List, ⊤}
use Rattle.rc_schema.specs.SchemaValue.{SchemaValue}
use Rattle.rc_mutation.specs.declared.mutations.Write.{Write}
use Rattle.rc_lines.specs.declared.commands.Command.{Command}
use Rattle.rc_lines.specs.declared.commands.Command.TheVariants.{OpenRead}
use Rattle.rc_lines.specs.declared.commands.Reply.{Reply}
use Rattle.rc_lines.specs.declared.commands.Reply.TheVariants.{Fine}
use Rattle.rc_memory.specs.Memory.{Memory}
use Rattle.rc_lookup.specs.Unstored.{Unstored}
use Rattle.rc_lookup.specs.Memtables.{HaveWrites}
use Rattle.rc_lookup.specs.Readers.{IsSnapshotOfKey, IsTakenIf}
use Rattle.rc_lookup.specs.Steps.{AreSameKeys}
use Rattle.rc_shard.specs.declared.readers.PartitionReader.{PartitionReader}
use Rattle.rc_shard.specs.Readers.{cached_of, written_snaps_of}
use Rattle.rc_shard.specs.Using.{LeavesBeside}

-- A reader of a partition holds a snapshot of what is sealed of it, and one of what is written since, each exactly where a write names it. To take these is all that is done to the chains: no version is made or changed, no object comes to be, and none moves.
pub record PinsPartition (key : List ℕ) (old new : Unstored 131072) (o : PartitionReader) : Type 0 where
  pub sealed : (schema : SchemaValue) (writes later : List Write) → HaveWrites schema old writes later → IsSnapshotOfKey key writes old.chains new.chains (written_snaps_of o).sealed
  pub active : (schema : SchemaValue) (writes later : List Write) → HaveWrites schema old writes later → IsSnapshotOfKey key later old.chains new.chains (written_snaps_of o).active
  pub exact : (mid : Memory) × IsTakenIf old.chains mid (written_snaps_of o).sealed × IsTakenIf mid new.chains (written_snaps_of o).active
  pub keys : AreSameKeys old new

-- Behind the open readers stands one more, with this id, which pins a partition; before, the row cache was asked what the tables say, and filled where it does not know it: that leaves all else as it was, but for the snapshot of the row cache that the reader holds then, if it holds one.
pub record IsOnePinned (id : ℕ) (key : List ℕ) (readers : List (ℕ × PartitionReader)) (old : Unstored 131072) (readers' : List (ℕ × PartitionReader)) (new : Unstored 131072) : Type 0 where
  pub reader : PartitionReader
  pub behind : readers' ≡ readers ++ (id, reader) ∷ []
  pub asked : Unstored 131072
  pub rest : LeavesBeside (cached_of reader) old.chains asked.chains
  pub keys : AreSameKeys old asked
  pub pins : PinsPartition key asked new reader

-- An opening that is answered copies nothing of what is written and stands in no table, nor of what the row cache has: its reader pins that.
abbrev pub IsOpenedAsTold : Command → Reply → List (ℕ × PartitionReader) → Unstored 131072 → List (ℕ × PartitionReader) → Unstored 131072 → Type 0
IsOpenedAsTold (OpenRead id key slice) Fine readers old readers' new = IsOnePinned id key readers old readers' new
IsOpenedAsTold command reply readers old readers' new = ⊤
