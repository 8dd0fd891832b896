-- The words of a layer's cached stream, if there is one.
use Rattle.std.specs.Prelude.{◌≡◌, ⊤, ℕ, List, Option, None, IfSome, MatchOption, IsSome}
use Rattle.rc_mutation.specs.declared.mutations.Mutation.{Mutation}
use Rattle.rc_memory.specs.Memory.{Memory}
use Rattle.rc_cursor.specs.Snapshots.{IsHeadSeen}
use Rattle.rc_cacheread.specs.Sharing.{IsReaderOf, IsReady, IsStaticRowKnown}
use Rattle.rc_cached.specs.declared.readings.Readings.{Readings}
use Rattle.rc_cached.specs.calls.Parts.{of_its_filler, of_snapshot, of_underlying}
use Rattle.rc_cached.specs.Streams.{OfCache, read_below}

-- where there is a cached stream, it is a reader of these writes
abbrev pub IsReaderIn : ℕ → List Mutation → Memory → Readings → Option OfCache → Type 0
IsReaderIn S below m w cached = IfSome cached (λ r. IsReaderOf of_snapshot of_underlying (of_its_filler S) below r m w)

-- there is no cached stream, or what its tables say was read
abbrev pub IsReadIn : Readings → Option OfCache → Type 0
IsReadIn w cached = MatchOption cached ⊤ (λ r. IsSome (read_below r w))

-- there is no cached stream, or nothing of its tables was read
abbrev pub IsUnreadIn : Readings → Option OfCache → Type 0
IsUnreadIn w cached = IfSome cached (λ r. read_below r w ≡ None)

-- where there is a cached stream, its snapshot knows the static row
abbrev pub IsStaticKnownIn : Memory → Option OfCache → Type 0
IsStaticKnownIn m cached = IfSome cached (λ r. IsStaticRowKnown (IsHeadSeen m r.known.snap))

-- where there is a cached stream, its calls may be made
abbrev pub IsReadyIn : ℕ → Memory → Readings → Option OfCache → Type 0
IsReadyIn S m w cached = IfSome cached (λ r. IsReady of_snapshot of_underlying (of_its_filler S) r m w)
