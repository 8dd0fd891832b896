-- The stream of what a memtable has of a partition.
--     nothing_said     the stream of nothing
--     IsNewWritten     the stream of a snapshot as it is made, or of nothing
--     snap_in          the snapshot that it is of
--     IsStreamOf       it is that of a snapshot, wherever it stands, or of nothing
--     DidAs            it is still that of each of which it was
use Rattle.std.specs.Prelude.{[], Option, Some, None, option_map}
use Rattle.rc_cell.specs.Winner.{empty_row}
use Rattle.rc_chain.specs.declared.chains.Snap.{Snap}
use Rattle.rc_stream.specs.Stream.{Stream}
use Rattle.rc_snapshots.specs.SnapshotReader.{SnapshotReader}
use Rattle.rc_cacheread.specs.declared.readers.CacheReader.{CacheReader}
use Rattle.rc_snapshots.specs.declared.fillers.NoFiller.{NoFiller}
use Rattle.rc_snapshots.specs.Streams.{IsNewStream, IsOf}
use Rattle.rc_opened.specs.declared.written.Written.{Written}

-- the stream of a snapshot
abbrev pub OfSnapshot : Type 0
OfSnapshot = CacheReader SnapshotReader Stream NoFiller

-- nothing is said: no partition tombstone, no static row, no row and no range tombstone
abbrev pub nothing_said : Stream
nothing_said = record { head = record { pt = None; statics = empty_row }; tomb = None; left = [] }

-- the stream of this snapshot as it is made; where there is none, that of nothing
abbrev pub IsNewStreamOf : Option Snap → Option OfSnapshot → Type 0
IsNewStreamOf None None = Unit {0}
IsNewStreamOf None (Some r) = ⊥
IsNewStreamOf (Some s) None = ⊥
IsNewStreamOf (Some s) (Some r) = IsNewStream s r

-- what a memtable has of a partition, from its beginning, where this is the snapshot of it
abbrev pub IsNewWritten : Option Snap → Written → Type 0
IsNewWritten snap r = IsNewStreamOf snap r.stream

-- the snapshot of a stream; none of nothing
abbrev pub snap_in : Option OfSnapshot → Option Snap
snap_in stream = option_map (λ r. r.known.snap) stream

-- a stream is that of this snapshot, wherever it stands; where there is none, that of nothing
abbrev pub IsStreamOf : Option Snap → Option OfSnapshot → Type 0
IsStreamOf None None = Unit {0}
IsStreamOf None (Some r) = ⊥
IsStreamOf (Some s) None = ⊥
IsStreamOf (Some s) (Some r) = IsOf s r

-- it is still that of each snapshot of which it was
abbrev pub DidAs : Written → Written → Type 0
DidAs r t = (snap : Option Snap) → IsStreamOf snap r.stream → IsStreamOf snap t.stream
