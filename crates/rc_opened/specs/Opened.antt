-- What is left to an open reader over the chains that its snapshots are of.
--     AreChangesOf   changes are such as the program has, and fit a schema
--     SeeSomeChanges its snapshots see what some changes say
--     GivesLines     these lines are left
use Rattle.std.specs.Prelude.{All, false, List, Result, Ok, Err, ℕ, drop}
use Rattle.std.specs.declared.alloc.AllocError.{AllocError}
use Rattle.rc_schema.specs.SchemaValue.{SchemaValue}
use Rattle.rc_writes.specs.Allowed.{ChangeFits}
use Rattle.rc_mutation.specs.declared.mutations.Mutation.{Mutation}
use Rattle.rc_mutation.specs.Source.{IsMutation}
use Rattle.rc_query.specs.declared.lines.OutLine.{OutLine}
use Rattle.rc_memory.specs.Memory.{Memory}
use Rattle.rc_stream.specs.Stream.{Stream}
use Rattle.rc_stream.specs.declared.merges.Merge.{Merge}
use Rattle.rc_reader.specs.Left.{AreLeft}
use Rattle.rc_snapshots.specs.declared.snaps.Snaps.{Snaps}
use Rattle.rc_snapshots.specs.Seeing.{SeesAllOf}
use Rattle.rc_opened.specs.declared.no_files.NoFiles.{NoFiles}
use Rattle.rc_opened.specs.declared.opened.Opened.{Opened}
use Rattle.rc_opened.specs.declared.written.Written.{Written}
use Rattle.rc_opened.specs.Written.{IsStreamOf, snap_in}

-- changes are such as the program has, and fit a schema
pub record AreChangesOf (schema : SchemaValue) (changes : List Mutation) : Type 0 where
  pub mutations : All IsMutation changes
  pub fit : All (ChangeFits schema) changes

-- what an open reader reads
abbrev pub OfSources : Type 0
OfSources = Merge Stream (Merge Written Written)

-- its streams of what is sealed and of what is written since
abbrev pub sealed_stream_of : OfSources → Written
sealed_stream_of s = s.theirs.stream.ours.stream

-- what it has of the later writes
abbrev pub active_stream_of : OfSources → Written
active_stream_of s = s.theirs.stream.theirs.stream

-- the store over which it reads
abbrev pub no_files : NoFiles
no_files = record { begun = false }

-- the snapshots that are read
abbrev pub snaps_in : OfSources → Snaps
snaps_in s = record { sealed = snap_in (sealed_stream_of s).stream; active = snap_in (active_stream_of s).stream }

-- the snapshots of an open reader
abbrev pub snaps_of : Opened → Snaps
snaps_of o = snaps_in o.reader.stream

-- the streams are those of these snapshots, wherever they stand
pub record AreStreamsOf (snaps : Snaps) (s : OfSources) : Type 0 where
  pub sealed : IsStreamOf snaps.sealed (sealed_stream_of s).stream
  pub active : IsStreamOf snaps.active (active_stream_of s).stream

-- the snapshots see what some changes say
pub record SeeSomeChanges (m : Memory) (snaps : Snaps) : Type 0 where
  pub writes : List Mutation
  pub later : List Mutation
  pub sealed : SeesAllOf writes m snaps.sealed
  pub active : SeesAllOf later m snaps.active

-- These lines are left to an open reader over chains: its stream may be called, leaves them, and is that of its snapshots, which see what some changes say.
pub record GivesLines (ready : OfSources → Memory → NoFiles → Type 0) (seen : OfSources → Memory → NoFiles → Stream → Type 0) (m : Memory) (o : Opened) (lines : List OutLine) : Type 0 where
  pub may : ready o.reader.stream m no_files
  pub left : AreLeft seen o.reader m no_files lines
  pub streams : AreStreamsOf (snaps_of o) o.reader.stream
  pub see : SeeSomeChanges m (snaps_of o)

-- what is left of lines after the first so many were given; all of them, where memory was refused
abbrev pub left_behind : {T : Type 0} → Result T AllocError → ℕ → List OutLine → List OutLine
left_behind (Ok given) n lines = drop n lines
left_behind (Err e) n lines = lines
