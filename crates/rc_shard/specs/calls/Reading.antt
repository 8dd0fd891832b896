-- What a page of a reader comes to, and what it is told anew.
--     with_reader    the state with another reader in place of the one of an id
--     IsPaged        a reader gave a page
--     IsGoneOn     a reader goes on past the row cache
--     IsPastReader   a reader reads past the row cache
--     IsBesideChains, IsPagedBeside, IsGonePastAt    what is left of everything else
--     IsReadOfFirst  what was read of the tables of a reader's opening
--     IsPutInPlace, IsRefilled, IsPutPast    what was read is in the row cache
--     IsSparedPast   a partition that a reader's going past leaves
--     IsTouchedPast  the rows that were given past the row cache are the most recent ones
use Rattle.std.specs.Prelude.{◌≡◌, ◌==◌, ◌⊎◌, ◌++◌, ℕ, ⊤, Bool, List, Option, Some, None, IfSome, get_or, length, nat_lt, set, take}
use Rattle.std.specs.Map.{set_value}
use Rattle.rc_outside.specs.Files.{Files}
use Rattle.rc_mutation.specs.declared.mutations.Mutation.{Mutation}
use Rattle.rc_query.specs.declared.lines.OutLine.{OutLine}
use Rattle.rc_machine.specs.State.{Reader, State, reader_of, rest_of}
use Rattle.rc_machine.specs.Steps.{IsResaid, reader_past}
use Rattle.rc_mutation.specs.Source.{IsJoinOf, IsMutation}
use Rattle.rc_writes.specs.Allowed.{ChangeFits}
use Rattle.rc_tfile.specs.declared.info.TableInfo.{TableInfo}
use Rattle.rc_folder.specs.Tabled.{IsSaidByFirst, Tabled}
use Rattle.rc_machine.specs.Standing.{IsOver}
use Rattle.rc_lines.specs.declared.commands.Reply.{Reply}
use Rattle.rc_lines.specs.declared.commands.Reply.TheVariants.{Given}
use Rattle.rc_memory.specs.Memory.{Memory}
use Rattle.rc_chain.specs.declared.chains.Snap.{Snap}
use Rattle.rc_stream.specs.Snapshot.{NoneLost}
use Rattle.rc_lookup.specs.Fillers.{losses}
use Rattle.rc_lookup.specs.Found.{entry_number}
use Rattle.rc_lookup.specs.Touched.{AreTouched, IsEntryOfGiven}
use Rattle.rc_lookup.specs.Memtables.{in_chains}
use Rattle.rc_paging.specs.declared.forms.PartReader.{PartReader}
use Rattle.rc_paging.specs.Forms.{ByForm, held_by}
use Rattle.rc_shard.specs.declared.readers.PartitionReader.{PartitionReader}
use Rattle.rc_shard.specs.declared.shard.Shard.{Shard}
use Rattle.rc_shard.specs.Readers.{cached_of, written_snaps_of}
use Rattle.rc_shard.specs.Filling.{MayRefill}
use Rattle.rc_shard.specs.Knowing.{IsCachedWhole, IsPartitionListed, IsPastNow}
use Rattle.rc_shard.specs.Releasing.{IsSnapGivenBack}

-- the state with another reader in place of the one of an id
abbrev pub with_reader : ℕ → Reader → State → State
with_reader id r m = record m { readers = set_value (λ k. k == id) m.readers r }

-- The machine's reader of an id gives the first lines that are left to it, and whether there are more; and the shard stands for the state then.
pub record IsPaged (Stood : Option Files → Shard → State → Type 0) (files : Option Files) (id count : ℕ) (m : State) (gave : List OutLine × Bool) (k' : Shard) : Type 0 where
  pub reader : Reader
  pub found : reader_of id m ≡ Some reader
  pub lines : gave.0 ≡ take count (rest_of reader)
  pub more : gave.1 ≡ nat_lt count (length (rest_of reader))
  pub stands : Stood files k' (with_reader id (reader_past count reader) m)

-- The machine's reader of an id is told anew what the tables say, as it may be; and the shard stands for the state then.
pub record IsGoneOn (Stood : Option Files → Shard → State → Type 0) (files : Option Files) (id : ℕ) (m : State) (k' : Shard) : Type 0 where
  pub reader : Reader
  pub found : reader_of id m ≡ Some reader
  pub said : List Mutation
  pub resaid : IsResaid m reader said
  pub stands : Stood files k' (with_reader id (record reader { said = said }) m)

-- beside the chains all is as it was
pub record IsBesideChains (old new : Shard) : Type 0 where
  pub unstored : new.unstored ≡ in_chains new.unstored.chains old.unstored
  pub folder : new.folder ≡ old.folder
  pub cache : new.cache ≡ old.cache
  pub readers : new.readers ≡ old.readers
  pub answered : new.answered ≡ old.answered
  pub segments : new.segments ≡ old.segments
  pub asked : new.asked ≡ old.asked

-- a reader reads past the row cache
abbrev pub IsPastReader : PartReader → Type 0
IsPastReader o = ByForm (λ _. ⊥) (λ _. ⊤) o

-- all is as it was but for the reader at a place, which holds the same, and is past the row cache where it was
pub record IsPagedBeside (at : ℕ) (old new : Shard) : Type 0 where
  pub reader : ℕ × PartitionReader
  pub readers : new.readers.items ≡ set old.readers.items at reader
  pub kept : (o : ℕ × PartitionReader) → get_or old.readers.items at o ≡ o → (reader.0 ≡ o.0) × (reader.1.key ≡ o.1.key) × (reader.1.tables ≡ o.1.tables) × (held_by reader.1.reader ≡ held_by o.1.reader)
  pub past : (o : ℕ × PartitionReader) → get_or old.readers.items at o ≡ o → IsPastReader o.1.reader → IsPastReader reader.1.reader
  pub over : (o : ℕ × PartitionReader) → get_or old.readers.items at o ≡ o → IsPastReader reader.1.reader → IsPastReader o.1.reader
  pub unstored : new.unstored ≡ old.unstored
  pub folder : new.folder ≡ old.folder
  pub cache : new.cache ≡ old.cache
  pub answered : new.answered ≡ old.answered
  pub segments : new.segments ≡ old.segments
  pub asked : new.asked ≡ old.asked

-- all is as it was but for the reader at a place, which was this one, reads past the row cache, and holds of it no snapshot; it was taken back
pub record IsGonePastAt (at : ℕ) (o : ℕ × PartitionReader) (old new : Shard) : Type 0 where
  pub reader : ℕ × PartitionReader
  pub readers : new.readers.items ≡ set old.readers.items at reader
  pub id : reader.0 ≡ o.0
  pub key : reader.1.key ≡ o.1.key
  pub tables : reader.1.tables ≡ o.1.tables
  pub snaps : held_by reader.1.reader ≡ record { cached = None; written = written_snaps_of o.1 }
  pub gone : IsPastReader reader.1.reader
  pub past : IsSnapGivenBack (cached_of o.1) old.unstored.chains new.unstored.chains
  pub unstored : new.unstored ≡ in_chains new.unstored.chains old.unstored
  pub folder : new.folder ≡ old.folder
  pub cache : new.cache ≡ old.cache
  pub answered : new.answered ≡ old.answered
  pub segments : new.segments ≡ old.segments
  pub asked : new.asked ≡ old.asked

-- what was read of the tables of a reader's opening, over these files, is a mutation that fits the schema, to which what they say joins
pub record IsReadOfFirst (files : Option Files) (f : Tabled) (o : PartitionReader) (read : Mutation) : Type 0 where
  pub said : (m : State) (later : List TableInfo) → IsOver files f.schema f.infos m → f.infos ≡ o.tables ++ later → (said : List Mutation) × IsSaidByFirst m o.tables o.key said × IsJoinOf read said
  pub mutation : IsMutation read
  pub fits : ChangeFits f.schema read

-- what was read was put into the row cache in place of what that had of a reader's partition, and no entry has the chain of which the reader holds a snapshot
pub record IsPutInPlace (o : PartitionReader) (k k' : Shard) : Type 0 where
  pub snap : Snap
  pub held : cached_of o ≡ Some snap
  pub whole : NoneLost (losses k.unstored.chains) (losses k'.unstored.chains) → IsCachedWhole k' o.key
  pub apart : (key : List ℕ) → entry_number k'.cache.entries key ≡ Some snap.chain → ⊥

-- so it was; or the reader may put nothing there, and nothing changed
abbrev pub IsRefilled : PartitionReader → Shard → Shard → Type 0
IsRefilled o k k' = ((MayRefill k.folder.infos o → ⊥) × (k' ≡ k)) ⊎ IsPutInPlace o k k'

-- something of a partition could be evicted, or a snapshot is of another chain
abbrev pub IsSparedPast : Option Snap → Shard → List ℕ → Type 0
IsSparedPast snap k key = IsPartitionListed k key ⊎ IfSome snap (λ s. entry_number k.cache.entries key ≡ Some s.chain → ⊥)

-- once lines were given past it the row cache knows all of a reader's partition, where the reader might put there what it missed, and nothing was lost
abbrev pub IsPutPast : PartitionReader → Reply → Shard → Shard → Type 0
IsPutPast o (Given lines more) k k' = NoneLost (losses k.unstored.chains) (losses k'.unstored.chains) → MayRefill k.folder.infos o → IsCachedWhole k' o.key
IsPutPast o reply k k' = ⊤

-- the reader of an id reads past the row cache now, and the rows that it gave are the most recent ones there
abbrev pub IsTouchedPast : ℕ → PartitionReader → Reply → Shard → Type 0
IsTouchedPast id o (Given lines more) k' = IsPastNow id k' × ((read : Memory) × AreTouched (IsEntryOfGiven (entry_number k'.cache.entries o.key) lines) read k'.unstored.chains)
IsTouchedPast id o reply k' = ⊤
