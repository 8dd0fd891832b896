-- What is filled: what an opening and a read leave known of their partition.
--     HoldsCached         a reader holds a snapshot of what the row cache has of its partition
--     NoneSkipped         nothing was left out of the row cache
--     IsCachedByReader, IsHeldByReader      so does the open reader of an id; and the static row is known to it
--     ReadsLatest         a reader reads what all tables say of its partition
--     MayRefill           it may put what it misses into the row cache
--     StaysLatest         so it may still, unless one more table lists the partition
--     IsKnownOnceOpened   so it is once a reader was opened
--     IsKnownOnceAsked    what a reader misses is put into the row cache
--     IsFilledAsTold      so it is by an opening and by a read
--     IsPassedAsTold      what a read passed is known to its reader's snapshot
use Rattle.std.specs.Prelude.{◌≡◌, ◌==◌, ◌⊎◌, ◌<◌, ℕ, List, Some, drop, length, ⊤}
use Rattle.std.specs.Map.{lookup}
use Rattle.rc_chain.specs.declared.chains.Snap.{Snap}
use Rattle.rc_tfile.specs.declared.info.TableInfo.{TableInfo}
use Rattle.rc_tables.specs.Tables.{listing}
use Rattle.rc_lines.specs.declared.commands.Command.{Command}
use Rattle.rc_lines.specs.declared.commands.Command.TheVariants.{OpenRead, Read}
use Rattle.rc_lines.specs.declared.commands.Reply.{Reply}
use Rattle.rc_lines.specs.declared.commands.Reply.TheVariants.{Fine, Given}
use Rattle.rc_lookup.specs.Fillers.{losses}
use Rattle.rc_lookup.specs.Found.{entry_number}
use Rattle.rc_lookup.specs.Known.{KnowsStaticRow}
use Rattle.rc_stream.specs.Snapshot.{NoneLost}
use Rattle.rc_machine.specs.State.{Reader, State, reader_of}
use Rattle.rc_shard.specs.declared.readers.PartitionReader.{PartitionReader}
use Rattle.rc_shard.specs.declared.shard.Shard.{Shard}
use Rattle.rc_shard.specs.Readers.{cached_of}
use Rattle.rc_shard.specs.Knowing.{IsCachedWhole, IsPastNow, IsReadCached, IsStaticCached}

-- a reader holds a snapshot of the chain that the row cache has of its partition
pub record HoldsCached (entries : List (List ℕ × ℕ)) (o : PartitionReader) : Type 0 where
  pub snap : Snap
  pub held : cached_of o ≡ Some snap
  pub entry : entry_number entries o.key ≡ Some snap.chain

-- a reader reads what all tables say of its partition: none of those behind the tables of its opening lists it
abbrev pub ReadsLatest : List TableInfo → PartitionReader → Type 0
ReadsLatest infos o = listing o.key (drop (length o.tables) infos) ≡ 0

-- a reader over a snapshot of the row cache may put what it misses into that, where it reads what all tables say
pub record MayRefill (infos : List TableInfo) (o : PartitionReader) : Type 0 where
  pub snap : Snap
  pub held : cached_of o ≡ Some snap
  pub latest : ReadsLatest infos o

-- Who may put what it misses into the row cache may do so as long as it reads over a snapshot of that, unless one more table lists its partition: only a flush that writes the partition ends it, whatever is evicted or filled by others.
abbrev pub StaysLatest : Shard → Shard → Type 0
StaysLatest k k' = (id : ℕ) (o o' : PartitionReader) → lookup (λ q. q == id) k.readers.items ≡ Some o → lookup (λ q. q == id) k'.readers.items ≡ Some o' → listing o.key k'.folder.infos ≡ listing o.key k.folder.infos → ReadsLatest k.folder.infos o → ReadsLatest k'.folder.infos o'

-- nothing was left out of the row cache for want of room meanwhile, as far as that is counted
abbrev pub NoneSkipped : Shard → Shard → Type 0
NoneSkipped k k' = NoneLost k.unstored.chains.counts.skipped k'.unstored.chains.counts.skipped

-- the open reader of an id reads this partition over a snapshot of what the row cache has of it, and reads what all tables say of it
pub record IsCachedByReader (id : ℕ) (key : List ℕ) (k : Shard) : Type 0 where
  pub reader : PartitionReader
  pub found : lookup (λ q. q == id) k.readers.items ≡ Some reader
  pub of_key : reader.key ≡ key
  pub holds : HoldsCached k.cache.entries reader
  pub latest : ReadsLatest k.folder.infos reader

-- and the static row is known to that snapshot
pub record IsHeldByReader (id : ℕ) (key : List ℕ) (k : Shard) : Type 0 where
  pub reads : IsCachedByReader id key k
  pub head : KnowsStaticRow k.unstored.chains reads.holds.snap

-- Once a reader of a partition is opened it holds a snapshot of what the row cache has of it, to which the static row is known, and may put there what it misses (`MayRefill`); and the row cache knows all of the partition, also what no table holds of it, unless it knew the static row before.
pub record IsKnownOnceOpened (id : ℕ) (key : List ℕ) (k k' : Shard) : Type 0 where
  pub held : IsHeldByReader id key k'
  pub whole : IsStaticCached k key ⊎ IsCachedWhole k' key

-- Once a read asked the store, or its reader reads past the row cache now, the row cache knows all of the partition, where the reader might put there what it missed.
abbrev pub IsKnownOnceAsked : ℕ → (before now : ℕ) → Shard → Shard → Type 0
IsKnownOnceAsked id before now k k' = (o : PartitionReader) → lookup (λ q. q == id) k.readers.items ≡ Some o → MayRefill k.folder.infos o → (before < now) ⊎ IsPastNow id k' → IsCachedWhole k' o.key

-- What is missing is asked for once: after an opening or a read that was answered the row cache knows what it was asked for, unless memory was too small for that meanwhile: something of the cache was evicted, or not taken in. Whatever is evicted, a reader that is opened holds a snapshot of what the row cache has of its partition, and may put there what it misses, unless something was not taken in.
abbrev pub IsFilledAsTold : Command → Reply → (before now : ℕ) → Shard → Shard → Type 0
IsFilledAsTold (OpenRead id key slice) Fine before now k k' = (NoneSkipped k k' → IsCachedByReader id key k') × (NoneLost (losses k.unstored.chains) (losses k'.unstored.chains) → IsKnownOnceOpened id key k k')
IsFilledAsTold (Read id count) (Given lines more) before now k k' = NoneLost (losses k.unstored.chains) (losses k'.unstored.chains) → IsKnownOnceAsked id before now k k'
IsFilledAsTold command reply before now k k' = ⊤

-- What a read passed is known: after a read that was answered all is known to its reader's snapshot of the row cache that the read passed, unless the reader reads past that now. So the same read asks the store for nothing then (`AsksNothingWhereKnown`).
abbrev pub IsPassedAsTold : State → Command → Reply → Shard → Shard → Type 0
IsPassedAsTold m (Read id count) (Given lines more) k k' = (o : PartitionReader) (r : Reader) → lookup (λ q. q == id) k.readers.items ≡ Some o → reader_of id m ≡ Some r → (IsPastNow id k' → ⊥) → IsReadCached k' count o r
IsPassedAsTold m command reply k k' = ⊤
