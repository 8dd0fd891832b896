-- What an open reader reads, as it is made and taken apart again.
--     AreMemtableLayers    what the reader of snapshots of memtables reads, as it is made
--     held_in    the snapshots that are read
--     AreLayersOf    the streams are those of snapshots, wherever they stand
use Rattle.std.specs.Prelude.{Option, None, option_map}
use Rattle.rc_chain.specs.declared.chains.Snap.{Snap}
use Rattle.rc_stream.specs.declared.merges.Merge.{Merge}
use Rattle.rc_stream.specs.Did.{IsNewMerge}
use Rattle.rc_snapshots.specs.declared.snaps.Snaps.{Snaps}
use Rattle.rc_snapshots.specs.Streams.{IsNewStream, IsOf}
use Rattle.rc_cached.specs.Streams.{IsNewCached, IsOfCached, OfCache}
use Rattle.rc_paging.specs.declared.memtables.MemtableStream.{MemtableStream}
use Rattle.rc_paging.specs.declared.optional.Optional.{Optional}
use Rattle.rc_paging.specs.declared.layers.HeldSnaps.{HeldSnaps}
use Rattle.rc_paging.specs.Optional.{WithBoth}

-- what an open reader reads
abbrev pub OfLayers : Type 0
OfLayers = Merge (Merge (Optional MemtableStream) (Optional MemtableStream)) (Optional OfCache)

-- its stream of what is sealed
abbrev pub sealed_in : OfLayers → Option MemtableStream
sealed_in s = s.ours.stream.ours.stream.stream

-- that of what is written since
abbrev pub active_in : OfLayers → Option MemtableStream
active_in s = s.ours.stream.theirs.stream.stream

-- that of what the row cache has
abbrev pub cached_in : OfLayers → Option OfCache
cached_in s = s.theirs.stream.stream

-- the stream of a memtable's snapshot, as it is made; none where there is no snapshot
abbrev pub IsNewMemtableLayer : Option Snap → Option MemtableStream → Type 0
IsNewMemtableLayer = WithBoth (λ s r. IsNewStream s r.stream) (Unit {0})

-- the stream of a cache chain's snapshot, as it is made; none where there is no snapshot
abbrev pub IsNewCacheLayer : Option Snap → Option OfCache → Type 0
IsNewCacheLayer = WithBoth (λ s r. IsNewCached s r) (Unit {0})

-- what the reader of snapshots of memtables reads, as it is made: what is sealed, with what is written since
pub record AreMemtableLayers (written : Snaps) (s : Merge (Optional MemtableStream) (Optional MemtableStream)) : Type 0 where
  pub sealed : Optional MemtableStream
  pub active : Optional MemtableStream
  pub new_sealed : IsNewMemtableLayer written.sealed sealed.stream
  pub new_active : IsNewMemtableLayer written.active active.stream
  pub both : IsNewMerge sealed active s

-- the snapshot of a memtable's stream
abbrev pub memtable_snap_in : Option MemtableStream → Option Snap
memtable_snap_in stream = option_map (λ r. r.stream.known.snap) stream

-- the snapshot of a cached stream
abbrev pub cache_snap_in : Option OfCache → Option Snap
cache_snap_in stream = option_map (λ r. r.known.snap) stream

-- the snapshots that are read
abbrev pub held_in : OfLayers → HeldSnaps
held_in s = record { cached = cache_snap_in (cached_in s); written = record { sealed = memtable_snap_in (sealed_in s); active = memtable_snap_in (active_in s) } }

-- no snapshots
abbrev pub none_held : HeldSnaps
none_held = record { cached = None; written = record { sealed = None; active = None } }

-- a memtable's stream is that of this snapshot, wherever it stands; none where there is no snapshot
abbrev pub IsMemtableLayerOf : Option Snap → Option MemtableStream → Type 0
IsMemtableLayerOf = WithBoth (λ s r. IsOf s r.stream) (Unit {0})

-- a cached stream is that of this snapshot, wherever it stands; none where there is no snapshot
abbrev pub IsCacheLayerOf : Option Snap → Option OfCache → Type 0
IsCacheLayerOf = WithBoth IsOfCached (Unit {0})

-- the streams are those of these snapshots, wherever they stand
pub record AreLayersOf (held : HeldSnaps) (s : OfLayers) : Type 0 where
  pub sealed : IsMemtableLayerOf held.written.sealed (sealed_in s)
  pub active : IsMemtableLayerOf held.written.active (active_in s)
  pub cached : IsCacheLayerOf held.cached (cached_in s)
