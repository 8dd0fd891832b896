-- What calls keep of what an open reader reads.
use Rattle.std.specs.Prelude.{◌≡◌, ◌⊎◌, ℕ, List, Option, Some, None, IfSome}
use Rattle.rc_position.specs.declared.positions.Pos.{Pos}
use Rattle.rc_position.specs.Position.{IsBefore}
use Rattle.rc_core.specs.Version.{end_position}
use Rattle.rc_stream.specs.Did.{OfNext}
use Rattle.rc_stream.specs.Places.{Reaches}
use Rattle.rc_cursor.specs.Snapshots.{IsHeadSeen, Knows}
use Rattle.rc_cacheread.specs.Did.{IsKnownFor}
use Rattle.rc_cacheread.specs.Passing.{IsKnownOver}
use Rattle.rc_cacheread.specs.Sharing.{IsStaticRowKnown}
use Rattle.rc_cacheread.specs.Spots.{stand}
use Rattle.rc_mutation.specs.declared.mutations.Mutation.{Mutation}
use Rattle.rc_memory.specs.Memory.{Memory}
use Rattle.rc_cached.specs.declared.readings.Readings.{Readings}
use Rattle.rc_chain.specs.declared.chains.Snap.{Snap}
use Rattle.rc_cached.specs.Leaving.{LeavesChains}
use Rattle.rc_cached.specs.Streams.{IsOfCached, OfCache, SayBelow, read_below}
use Rattle.rc_paging.specs.Pages.{StandFor}
use Rattle.rc_paging.specs.declared.layers.HeldSnaps.{HeldSnaps}
use Rattle.rc_paging.specs.calls.Layers.{AreLayersOf, IsCacheLayerOf, OfLayers, cached_in}
use Rattle.rc_paging.specs.calls.Words.{IsReadIn, IsReaderIn, IsUnreadIn}

-- what an open reader reads, with chains and readings
abbrev pub Three : Type 0
Three = OfLayers × Memory × Readings

-- calls leave the chains to others, the layers those of their snapshots, and the cached stream a reader of the writes of which it was one; and where what the tables say was read, nothing is missed; and where nothing was read, nothing is then, and the chains are as they were
pub record KeptLayers (S : ℕ) (s t : Three) : Type 0 where
  pub chains : LeavesChains s.1 t.1
  pub layers : (held : HeldSnaps) → AreLayersOf held s.0 → AreLayersOf held t.0
  pub reader : (below : List Mutation) → IsReaderIn S below s.1 s.2 (cached_in s.0) → IsReaderIn S below t.1 t.2 (cached_in t.0)
  pub missed : IsReadIn s.2 (cached_in s.0) → IsReadIn t.2 (cached_in t.0) × (t.2.missed ≡ s.2.missed)
  pub unread : IsUnreadIn s.2 (cached_in s.0) → IsUnreadIn t.2 (cached_in t.0) × (t.1 ≡ s.1)

-- calls of a cached stream, where there is one, leave the chains to others, it that of its snapshot, and a reader of the writes of which it was one; and where what the tables say was read, nothing is missed; and where nothing was read, nothing is then, and the chains are as they were
pub record KeptCache (S : ℕ) (r : Option OfCache) (m : Memory) (w : Readings) (t : Option OfCache) (n : Memory) (v : Readings) : Type 0 where
  pub chains : LeavesChains m n
  pub of : (snap : Option Snap) → IsCacheLayerOf snap r → IsCacheLayerOf snap t
  pub reader : (below : List Mutation) → IsReaderIn S below m w r → IsReaderIn S below n v t
  pub missed : IsReadIn w r → IsReadIn v t × (v.missed ≡ w.missed)
  pub unread : IsUnreadIn w r → IsUnreadIn v t × (n ≡ m)

-- layers are those of these snapshots; their cached stream is a reader of the writes for which the snapshots stand, where what was read says what they say; and nothing is read below it where nothing was handed in
pub record AreBegun (S : ℕ) (held : HeldSnaps) (m : Memory) (w : Readings) (s : OfLayers) : Type 0 where
  pub layers : AreLayersOf held s
  pub reader : (below writes later : List Mutation) → StandFor S m held below writes later → SayBelow below w → IsReaderIn S below m w (cached_in s)
  pub unread : w.list ≡ None → IsUnreadIn w (cached_in s)

-- no seek is due, and the cached stream, where there is one, stands at x
pub record IsPlacedAt (x : Pos) (s : OfLayers) : Type 0 where
  pub due : s.due ≡ None
  pub at : IfSome (cached_in s) (λ r. stand r.spot ≡ x)

-- what a cached stream passes up to y is known to this snapshot, which is its own, and it does not stand before x
pub record IsStreamAhead (x y : Pos) (snap : Option Snap) (m : Memory) (r : OfCache) : Type 0 where
  pub of : IsCacheLayerOf snap (Some r)
  pub on : Reaches x (stand r.spot)
  pub known : IsKnownFor (OfNext y) (Knows m r.known.snap) (IsHeadSeen m r.known.snap) (stand r.spot) r.to

-- of what an open reader reads no seek is due but one to x, and this holds of its cached stream, where there is one
pub record AreFrom (x : Pos) (P : Memory → Readings → OfCache → Type 0) (s : Three) : Type 0 where
  pub due : IfSome s.0.due (λ z. z ≡ x)
  pub cached : IfSome (cached_in s.0) (P s.1 s.2)

-- so is what its cached stream passes up to y known to this snapshot
abbrev pub AreAhead : (x y : Pos) → Option Snap → Three → Type 0
AreAhead x y snap s = AreFrom x (λ m w r. IsStreamAhead x y snap m r) s

-- nothing is read below a cached stream, and it does not stand before x; what it passed from there on is known to its snapshot
pub record IsStreamPassed (x : Pos) (m : Memory) (w : Readings) (r : OfCache) : Type 0 where
  pub snap : Snap
  pub of : IsOfCached snap r
  pub unread : read_below r w ≡ None
  pub on : Reaches x (stand r.spot)
  pub each : IsKnownOver (Knows m snap) x (stand r.spot)

-- and so is the static row
pub record IsStreamPassedWhole (x : Pos) (m : Memory) (w : Readings) (r : OfCache) : Type 0 where
  pub passed : IsStreamPassed x m w r
  pub static_row : IsStaticRowKnown (IsHeadSeen m passed.snap)

-- a place is behind a position, or where each partition ends
abbrev pub IsBehindOrEnds : (y place : Pos) → Type 0
IsBehindOrEnds y place = IsBefore y place ⊎ Reaches end_position place

-- and it stands behind y, or where the partition ends
pub record IsStreamPassedTo (x y : Pos) (m : Memory) (w : Readings) (r : OfCache) : Type 0 where
  pub whole : IsStreamPassedWhole x m w r
  pub behind : IsBehindOrEnds y (stand r.spot)

-- so of what an open reader reads
abbrev pub ArePassed : Pos → Three → Type 0
ArePassed x s = AreFrom x (IsStreamPassed x) s

-- so is the static row too
abbrev pub ArePassedWhole : Pos → Three → Type 0
ArePassedWhole x s = AreFrom x (IsStreamPassedWhole x) s

-- chains and readings are as they were
pub record IsQuiet (s t : Three) : Type 0 where
  pub home : t.1 ≡ s.1
  pub store : t.2 ≡ s.2
