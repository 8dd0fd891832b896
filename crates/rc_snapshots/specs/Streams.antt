-- The stream of a memtable's snapshot.
--     SeesChanges     the snapshot is there, and sees what changes say, all of it known
--     IsNewStream     its stream as it is made
--     IsOf            a stream is that of a snapshot, wherever it stands
use Rattle.std.specs.Prelude.{◌≡◌, List, []}
use Rattle.rc_position.specs.declared.positions.Pos.{Pos}
use Rattle.rc_position.specs.declared.positions.Weight.TheVariants.{Before}
use Rattle.rc_position.specs.declared.slices.Slice.{Slice}
use Rattle.rc_mutation.specs.declared.mutations.Mutation.{Mutation}
use Rattle.rc_core.specs.declared.entries.ChainKind.TheVariants.{Memtable}
use Rattle.rc_core.specs.Chains.{AllInherit}
use Rattle.rc_core.specs.Continuity.{EachOf}
use Rattle.rc_core.specs.StandsFor.{StandsFor}
use Rattle.rc_core.specs.Version.{end_position}
use Rattle.rc_cursor.specs.Memory.{HasPin, Memory}
use Rattle.rc_cursor.specs.Snap.{Snap}
use Rattle.rc_stream.specs.Stream.{Stream, stream_of}
use Rattle.rc_cursor.specs.declared.readers.SnapshotReader.{SnapshotReader}
use Rattle.rc_cursor.specs.Snapshots.{IsReadable, kind_seen, versions_seen}
use Rattle.rc_cacheread.specs.declared.readers.CacheReader.{CacheReader}
use Rattle.rc_cacheread.specs.Making.{IsNewReader}
use Rattle.rc_snapshots.specs.declared.fillers.NoFiller.{NoFiller}

-- a snapshot of a memtable's chain is there, sees what these changes say, and can be read by its parts; no version of it has a flag of its own
pub record SeesChanges (changes : List Mutation) (m : Memory) (s : Snap) : Type 0 where
  pub pin : HasPin m s.chain s.pin
  pub kind : kind_seen m s ≡ Memtable
  pub inherit : EachOf AllInherit (versions_seen m s)
  pub stands : StandsFor changes (versions_seen m s)
  pub readable : IsReadable m s

-- the first of all positions
abbrev pub first_position : Pos
first_position = record { prefix = []; weight = Before }

-- all positions
abbrev pub whole_partition : Slice
whole_partition = record { from = first_position; to = end_position }

-- the reader of a snapshot from the first position on
abbrev pub from_start : Snap → SnapshotReader
from_start s = record { snap = s; cursor = record { last = first_position } }

-- the filler of a snapshot
abbrev pub filler_of : Snap → NoFiller
filler_of s = record { chain = s.chain; pin = s.pin }

-- a new stream of a snapshot: over the whole partition, nothing below it, and nothing to fill
abbrev pub IsNewStream : Snap → CacheReader SnapshotReader Stream NoFiller → Type 0
IsNewStream s r = IsNewReader (from_start s) (stream_of []) (filler_of s) whole_partition r

-- a stream is that of this snapshot, wherever it stands
pub record IsOf (s : Snap) (r : CacheReader SnapshotReader Stream NoFiller) : Type 0 where
  pub snap : r.known.snap ≡ s
  pub filler : r.filler ≡ filler_of s
