-- What the row cache of a shard knows of a partition, and what an opening and a read have of that.
--     IsCachedWhole          all of a partition is known
--     IsChainWhere, IsCachedWhere    of the chain of a partition something holds
--     IsCachedAt, IsStaticCached     a position is known, or the static row
--     OnOpened               what holds of an opening's key, where a reader was opened
--     IsReadCached           what a read passes is known to its reader's snapshot
--     AsksNothingWhereKnown  what is known is opened and read without asking the store
--     AreEndsRecent          a partition's static row and end are the most recent objects
--     IsRecentOnceHit        so they are once it was opened, where its static row was known before
--     IsPastNow              a reader reads past the row cache
--     IsReaderTouched        the rows of lines are the most recent ones of a reader's partition
--     IsTouchedAsGiven       so those are that a read gives
--     IsUnwritten, IsPartitionListed, Spares    a partition that no memtable has; one of which something could be evicted; which partitions a command leaves
--     IsKnownStill, StaysKnown    what is known stays known
use Rattle.std.specs.Prelude.{◌≡◌, ◌==◌, ◌⊎◌, ℕ, IfSome, IsSomeAnd, IsTrue, List, None, Some, ⊤}
use Rattle.std.specs.Map.{lookup}
use Rattle.rc_position.specs.declared.positions.Pos.{Pos}
use Rattle.rc_core.specs.Chain.{has_flag}
use Rattle.rc_registry.specs.ChainKind.{ChainKind}
use Rattle.rc_registry.specs.Continuity.{static_states}
use Rattle.rc_registry.specs.Version.{Version, end_position}
use Rattle.rc_memory.specs.Memory.{Memory, chain_at}
use Rattle.rc_cacheread.specs.Passing.{IsKnownFrom}
use Rattle.rc_snapshots.specs.Snapshots.{IsKnownAs}
use Rattle.rc_snapshots.specs.Streams.{first_position}
use Rattle.rc_query.specs.declared.lines.OutLine.{OutLine}
use Rattle.rc_lines.specs.declared.commands.Command.{Command}
use Rattle.rc_lines.specs.declared.commands.Command.TheVariants.{Close, Flush, OpenRead, Read}
use Rattle.rc_lines.specs.declared.commands.Reply.{Reply}
use Rattle.rc_lines.specs.declared.commands.Reply.TheVariants.{Fine, Given}
use Rattle.rc_lookup.specs.Found.{entry_number}
use Rattle.rc_lookup.specs.Fillers.{losses}
use Rattle.rc_stream.specs.Snapshot.{NoneLost, Throughout}
use Rattle.rc_lookup.specs.Known.{IsChainKnown}
use Rattle.rc_lookup.specs.Touched.{AreRecent, AreTouched, IsEntryOfGiven, IsHeadOrEnd}
use Rattle.rc_lookup.specs.Writes.{chain_of}
use Rattle.rc_paging.specs.Forms.{ByForm}
use Rattle.rc_paging.specs.Pages.{IsPageKnown}
use Rattle.rc_machine.specs.State.{Reader, State, reader_of, rest_of}
use Rattle.rc_shard.specs.declared.readers.PartitionReader.{PartitionReader}
use Rattle.rc_shard.specs.Releasing.{IsChainListed}
use Rattle.rc_shard.specs.declared.shard.Shard.{Shard}

-- the row cache knows all of a partition: its static row, and each row and each gap between rows
abbrev pub IsCachedWhole : Shard → List ℕ → Type 0
IsCachedWhole k key = IsSomeAnd (entry_number k.cache.entries key) (IsChainKnown k.unstored.chains)

-- a chain is there, and of its kind and its versions this holds
abbrev pub IsChainWhere : (ChainKind → List Version → Type 0) → Memory → ℕ → Type 0
IsChainWhere P m id = IsSomeAnd (chain_at m id) (λ k. P k.chain.kind k.chain.versions)

-- so it does of the chain of a partition in the row cache
abbrev pub IsCachedWhere : (ChainKind → List Version → Type 0) → Shard → List ℕ → Type 0
IsCachedWhere P k key = IsSomeAnd (entry_number k.cache.entries key) (IsChainWhere P k.unstored.chains)

-- the row cache knows a partition at a position, or the row inside which that is
abbrev pub IsCachedAt : Shard → List ℕ → Pos → Type 0
IsCachedAt k key x = IsCachedWhere (λ kind versions. IsKnownFrom (IsKnownAs kind versions) first_position x) k key

-- the row cache knows the static row of a partition
abbrev pub IsStaticCached : Shard → List ℕ → Type 0
IsStaticCached k key = IsCachedWhere (λ kind versions. IsTrue (has_flag kind (static_states versions))) k key

-- so, where a reader was opened
abbrev pub OnOpened : Command → Reply → (List ℕ → Type 0) → Type 0
OnOpened (OpenRead id key slice) Fine P = P key
OnOpened command reply P = ⊤

-- to the snapshot that an open reader holds of the row cache all is known that a read of so many lines passes of what is left to the machine's; or it reads past the row cache
abbrev pub IsReadCached : Shard → ℕ → PartitionReader → Reader → Type 0
IsReadCached k count o r = ByForm (λ c. IsPageKnown k.unstored.chains c count (rest_of r)) (λ _. ⊤) o.reader

-- A cache hit: where the row cache knows the static row of a partition, opening a reader of it asks the store for nothing, whatever the reply; and so does a read to whose reader's snapshot of the row cache all is known from the reader's place up to right behind the row of the first line that is left after it, or to the slice's end, and the static row.
abbrev pub AsksNothingWhereKnown : State → Command → Shard → (before now : ℕ) → Type 0
AsksNothingWhereKnown m (OpenRead id key slice) k before now = IsStaticCached k key → now ≡ before
AsksNothingWhereKnown m (Read id count) k before now = (o : PartitionReader) (r : Reader) → lookup (λ q. q == id) k.readers.items ≡ Some o → reader_of id m ≡ Some r → IsReadCached k count o r → now ≡ before
AsksNothingWhereKnown m command k before now = ⊤

-- the static row of a partition and its end are the most recent objects of the cache, those that were in the recency list; all others stand in the order in which they stood
abbrev pub AreEndsRecent : List ℕ → Shard → Shard → Type 0
AreEndsRecent key k k' = IsSomeAnd (entry_number k'.cache.entries key) (λ id. AreRecent (IsHeadOrEnd id) k.unstored.chains.recency k'.unstored.chains.recency)

-- A hit: once a reader is opened of a partition of which the row cache knew the static row, that and the partition's end are the most recent objects. So what is evicted first is what was used longest ago.
abbrev pub IsRecentOnceHit : Command → Reply → Shard → Shard → Type 0
IsRecentOnceHit command reply k k' = OnOpened command reply (λ key. IsStaticCached k key → AreEndsRecent key k k')

-- the open reader of an id reads past the row cache
abbrev pub IsPastNow : ℕ → Shard → Type 0
IsPastNow id k = IsSomeAnd (lookup (λ q. q == id) k.readers.items) (λ o. ByForm (λ _. ⊥) (λ _. ⊤) o.reader)

-- the entries of the rows of lines, in the partition of a reader, are the most recent objects of the row cache, all that were in the recency list; all others stand in the order in which they stood. Nothing else of the cache or of memory changed, unless the reader reads past the row cache now.
pub record IsReaderTouched (id : ℕ) (lines : List OutLine) (o : PartitionReader) (k k' : Shard) : Type 0 where
  pub read : Memory
  pub before : ((k'.cache ≡ k.cache) × (read ≡ k.unstored.chains)) ⊎ IsPastNow id k'
  pub touched : AreTouched (IsEntryOfGiven (entry_number k'.cache.entries o.key) lines) read k'.unstored.chains

-- What is read stays: the entries of the rows that a read gives are the most recent objects of the row cache, those of its reader's partition. So what is evicted first is what was opened or read longest ago.
abbrev pub IsTouchedAsGiven : Command → Reply → Shard → Shard → Type 0
IsTouchedAsGiven (Read id count) (Given lines more) k k' = IfSome (lookup (λ q. q == id) k.readers.items) (λ o. IsReaderTouched id lines o k k')
IsTouchedAsGiven command reply k k' = ⊤

-- no write that stands in no table names the key
pub record IsUnwritten (k : Shard) (key : List ℕ) : Type 0 where
  pub sealed : chain_of k.unstored.sealed key ≡ None
  pub active : chain_of k.unstored.active key ≡ None

-- something of the chain of a partition could be evicted
abbrev pub IsPartitionListed : Shard → List ℕ → Type 0
IsPartitionListed k key = IsSomeAnd (entry_number k.cache.entries key) (IsChainListed k.unstored.chains)

-- a flush leaves the partitions that are written in no memtable; a read and a closing, with which a snapshot may be taken back, those of which something could be evicted; and any other command each
abbrev pub Spares : Command → Shard → List ℕ → Type 0
Spares Flush k key = IsUnwritten k key
Spares (Read id count) k key = IsPartitionListed k key
Spares (Close id) k key = IsPartitionListed k key
Spares command k key = ⊤

-- what the row cache knew of a partition it knows still: each position, the static row, and all of it
pub record IsKnownStill (key : List ℕ) (old new : Shard) : Type 0 where
  pub each : Throughout first_position end_position (λ x. IsCachedAt old key x → IsCachedAt new key x)
  pub static_row : IsStaticCached old key → IsStaticCached new key
  pub whole : IsCachedWhole old key → IsCachedWhole new key

-- What the row cache knows of a partition it knows still, unless something of the cache was evicted or not taken in meanwhile, or the partition was written to a table, or the last snapshot was taken back of a chain of which nothing is left. So a partition of which a position is known is there still.
abbrev pub StaysKnown : Command → Shard → Shard → Type 0
StaysKnown command k k' = NoneLost (losses k.unstored.chains) (losses k'.unstored.chains) → (key : List ℕ) → Spares command k key → IsKnownStill key k k'
