-- What the row cache tells of a partition, and what asking it leaves of everything else.
--     IsTabled       a stream is that of what the tables say of a key
--     IsEntrySnapshot, IsSourceIn    what tells what the tables say
--     IsSourceKnown  it is a snapshot to which the static row is known
--     source_taken, snap_taken    the snapshot that was taken
--     IsCacheUsed    beside the row cache all is as it was
--     IsCacheLeft    the row cache has what it had
--     AreKnownStill  what is known is known still
--     UnlessMemory   so much holds, unless memory was refused
--     KeepsOver      over these files what stood for a state stands for it
use Rattle.std.specs.Prelude.{◌≡◌, List, ℕ, Option, Some, None, Result, Ok, Err, ⊤}
use Rattle.std.specs.List.{AllByRecursion}
use Rattle.rc_outside.specs.Files.{Files}
use Rattle.rc_mutation.specs.declared.mutations.Mutation.{Mutation}
use Rattle.rc_mutation.specs.Fragments.{fragments}
use Rattle.rc_mutation.specs.Source.{IsJoinOf, IsMutation}
use Rattle.rc_stream.specs.Stream.{Stream, stream_of}
use Rattle.rc_stream.specs.declared.streams.StreamErr.{StreamErr}
use Rattle.rc_stream.specs.declared.streams.StreamErr.TheVariants as stream_err
use Rattle.rc_lookup.specs.Steps.{AreSameKeys}
use Rattle.rc_chain.specs.declared.chains.Snap.{Snap}
use Rattle.rc_cached.specs.Stands.{HasCacheSnapshot}
use Rattle.rc_memory.specs.Memory.{Memory}
use Rattle.rc_lookup.specs.Found.{entry_number}
use Rattle.rc_lookup.specs.Known.{KnowsStaticRow}
use Rattle.rc_machine.specs.State.{State}
use Rattle.rc_machine.specs.Steps.{IsSaid}
use Rattle.rc_lookup.specs.Fillers.{losses}
use Rattle.rc_stream.specs.Snapshot.{NoneLost}
use Rattle.rc_shard.specs.declared.shard.Shard.{Shard}
use Rattle.rc_shard.specs.declared.readers.Source.{Source}
use Rattle.rc_shard.specs.declared.readers.Source.TheVariants.{Cached, Read}
use Rattle.rc_shard.specs.Readers.{IsOtherSnap, cached_of}
use Rattle.rc_shard.specs.Using.{LeavesBeside}
use Rattle.rc_shard.specs.Knowing.{IsKnownStill}
use Rattle.rc_shard.specs.calls.Caching.{LeavesCache}

-- a stream is that of the fragments of a mutation, from the beginning, to which what the tables say of a key joins
pub record IsTabled (m : State) (key : List ℕ) (list : Stream) : Type 0 where
  pub tabled : Mutation
  pub said : List Mutation
  pub mutation : IsMutation tabled
  pub stream : list ≡ stream_of (fragments tabled)
  pub of_tables : IsSaid m key said
  pub joined : IsJoinOf tabled said

-- a snapshot is one of the entry of a partition, which no open reader holds
pub record IsEntrySnapshot (k : Shard) (key : List ℕ) (s : Snap) : Type 0 where
  pub entry : entry_number k.cache.entries key ≡ Some s.chain
  pub there : HasCacheSnapshot k.unstored.chains s.chain s.pin
  pub apart : AllByRecursion (λ o. IsOtherSnap (cached_of o.1) s) k.readers.items

-- what tells what the tables say of a partition: a snapshot of its entry; or what was read of them
abbrev pub IsSourceIn : Shard → State → List ℕ → Source → Type 0
IsSourceIn k m key (Cached s) = IsEntrySnapshot k key s
IsSourceIn k m key (Read list) = IsTabled m key list

-- it is a snapshot to which the static row is known
abbrev pub IsSourceKnown : Memory → Source → Type 0
IsSourceKnown m (Cached s) = KnowsStaticRow m s
IsSourceKnown m (Read list) = ⊥

-- the snapshot that it is, if it is one
abbrev pub source_snap : Source → Option Snap
source_snap (Cached s) = Some s
source_snap (Read list) = None

-- the snapshot that was taken, if one was
abbrev pub source_taken : {E : Type 0} → Result Source E → Option Snap
source_taken (Ok source) = source_snap source
source_taken (Err e) = None

-- so it is where one was looked for
abbrev pub snap_taken : {E : Type 0} → Result (Option Snap) E → Option Snap
snap_taken (Ok snap) = snap
snap_taken (Err e) = None

-- the row cache was asked, and filled perhaps, and one snapshot of it taken, or none: memtables and what is seen of them, the tables, the open readers and the counts of answers are as they were
pub record IsCacheUsed (taken : Option Snap) (old new : Shard) : Type 0 where
  pub rest : LeavesBeside taken old.unstored.chains new.unstored.chains
  pub keys : AreSameKeys old.unstored new.unstored
  pub folder : new.folder ≡ old.folder
  pub readers : new.readers ≡ old.readers
  pub answered : new.answered ≡ old.answered
  pub segments : new.segments ≡ old.segments
  pub asked : new.asked ≡ old.asked

-- the row cache has the same entries, and what it had
pub record IsCacheLeft (old new : Shard) : Type 0 where
  pub cache : new.cache ≡ old.cache
  pub left : LeavesCache old.unstored.chains new.unstored.chains

-- what is known of a partition is known of it still, where nothing was lost
abbrev pub AreKnownStill : Shard → Shard → Type 0
AreKnownStill old new = NoneLost (losses old.unstored.chains) (losses new.unstored.chains) → (key : List ℕ) → IsKnownStill key old new

-- so much holds, unless memory was refused
abbrev pub UnlessMemory : {T : Type 0} → Result T StreamErr → Type 0 → Type 0
UnlessMemory (Ok x) P = P
UnlessMemory (Err stream_err.Fault) P = P
UnlessMemory (Err (stream_err.Damaged file offset)) P = P
UnlessMemory (Err stream_err.NoMemory) P = ⊤

-- over a store with these files what stood for a state stands for it
abbrev pub KeepsOver : {K : Type 0} → (Option Files → K → State → Type 0) → Option Files → K → K → Type 0
KeepsOver stands files old new = (m : State) → stands files old m → stands files new m
