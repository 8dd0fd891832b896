-- The stream of a snapshot of a cache chain over what was read of its tables.
--     filler_for      what fills a snapshot
--     IsNewCached     its stream as it is made
--     IsOfCached      a stream is that of a snapshot, wherever it stands
--     read_below      what was read and lies below a stream
--     SayBelow        what was read, if anything was, says what writes say
--     StillSays       what is left below a stream fits there, and says what writes say, from its place on
--     IsRestOf        what is left of a stream is what is due, and then what writes say
--     StillKnows      a snapshot knows what it knew
use Rattle.std.specs.Prelude.{◌≡◌, List, [], ◌∷◌, ◌++◌, Option, None, IfSome}
use Rattle.std.specs.Option.{option_or}
use Rattle.rc_position.specs.declared.positions.Pos.{Pos}
use Rattle.rc_position.specs.Position.{IsBefore}
use Rattle.rc_mutation.specs.declared.fragments.Frag.{Frag}
use Rattle.rc_mutation.specs.declared.mutations.Mutation.{Mutation}
use Rattle.rc_mutation.specs.Fragments.{fragments}
use Rattle.rc_mutation.specs.Source.{IsMutation, SameSource, source_at_head, source_at_static}
use Rattle.rc_memory.specs.Memory.{Memory}
use Rattle.rc_chain.specs.declared.chains.Snap.{Snap}
use Rattle.rc_stream.specs.Places.{Reaches}
use Rattle.rc_stream.specs.Snapshot.{SayThere, There}
use Rattle.rc_stream.specs.Stream.{Stream, stream_of}
use Rattle.rc_cursor.specs.declared.readers.SnapshotReader.{SnapshotReader}
use Rattle.rc_cursor.specs.Snapshots.{IsHeadSeen, Knows}
use Rattle.rc_cacheread.specs.declared.readers.CacheReader.{CacheReader}
use Rattle.rc_cacheread.specs.Making.{IsNewReader}
use Rattle.rc_cacheread.specs.Reading.{Reads, said_at}
use Rattle.rc_cacheread.specs.Sharing.{Fits, IsStaticRowKnown}
use Rattle.rc_cacheread.specs.Spots.{front, stand, tomb_told}
use Rattle.rc_snapshots.specs.Streams.{from_start, whole_partition}
use Rattle.rc_cached.specs.declared.fillers.StreamFiller.{StreamFiller}
use Rattle.rc_cached.specs.declared.readings.Readings.{Readings}
use Rattle.rc_cached.specs.declared.underlying.Underlying.{Underlying}
use Rattle.rc_cached.specs.Below.{LiesBelow}

-- the stream of a cache chain's snapshot, as a contract sees it
abbrev pub OfCache : Type 0
OfCache = CacheReader SnapshotReader Underlying StreamFiller

-- the filler of a snapshot
abbrev pub filler_for : Snap → StreamFiller
filler_for s = record { filler = record { chain = s.chain; pin = s.pin; phase = s.phase } }

-- a new stream of a snapshot: over the whole partition, nothing handed in below it, and the snapshot to be filled
abbrev pub IsNewCached : Snap → OfCache → Type 0
IsNewCached s r = IsNewReader (from_start s) (record { list = None }) (filler_for s) whole_partition r

-- a stream is that of this snapshot, wherever it stands
pub record IsOfCached (s : Snap) (r : OfCache) : Type 0 where
  pub snap : r.known.snap ≡ s
  pub filler : r.filler ≡ filler_for s

-- what was read and lies below a stream: what was handed in, or else what the readings have
abbrev pub read_below : OfCache → Readings → Option Stream
read_below r w = option_or r.below.list w.list

-- what was read of a partition is the stream of a mutation that says what writes say
pub record IsReadOf (writes : List Mutation) (read : Stream) : Type 0 where
  pub join : Mutation
  pub mutation : IsMutation join
  pub fragments : read ≡ stream_of (fragments join)
  pub same : SameSource (join ∷ []) writes

-- what was read, if anything was, says what writes say
abbrev pub SayBelow : List Mutation → Readings → Type 0
SayBelow writes w = IfSome w.list (IsReadOf writes)

-- from x on and before `to` a stream says what writes say, and its static row is theirs
pub record SaysFrom (writes : List Mutation) (x to : Pos) (t : Stream) : Type 0 where
  pub each : (y : Pos) → Reaches x y → IsBefore y to → SayThere writes y (said_at y t.tomb t.left)
  pub static_row : source_at_static writes ≡ t.head.statics

-- what may lie below a stream fits its place; and what was read, if anything was, says what writes say, from there on
pub record StillSays (writes : List Mutation) (w : Readings) (r : OfCache) : Type 0 where
  pub fits : (t : Stream) → LiesBelow (read_below r w) t → Fits r.stage (stand r.spot) r.spot.tomb t
  pub says : IfSome (read_below r w) (SaysFrom writes (stand r.spot) r.to)

-- what is left of this stream to a reader is what is due, and then what writes say, from its place on; and it has their head
pub record IsRestOf (writes : List Mutation) (r : OfCache) (t : Stream) : Type 0 where
  pub rest : List Frag
  pub tomb : t.tomb ≡ tomb_told r.spot
  pub left : t.left ≡ front r.spot ++ rest
  pub reads : Reads (SayThere writes) (stand r.spot) r.to r.spot.tomb rest
  pub pt : source_at_head writes ≡ t.head.pt
  pub static_row : source_at_static writes ≡ t.head.statics

-- over other chains a snapshot knows what it knew, the static row too
pub record StillKnows (s : Snap) (old new : Memory) : Type 0 where
  pub there : (x : Pos) (v : There) → Knows old s x v → Knows new s x v
  pub static_row : IsStaticRowKnown (IsHeadSeen old s) → IsStaticRowKnown (IsHeadSeen new s)
