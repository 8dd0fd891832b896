-- What is left of the snapshots after a page.
use Rattle.std.proofs.Common.{◌≡◌, ℕ, Bool, false, List, [], ◌∷◌, take, Option, Some, None, refl, sym, ap, subst, inl, inr, ◌∙◌}
use Rattle.std.specs.Option.{IfSome, IsSome, option_or}
use Rattle.rc_mutation.specs.declared.mutations.Mutation.{Mutation}
use Rattle.rc_position.specs.declared.positions.Pos.{Pos}
use Rattle.rc_position.specs.Position.{IsBefore}
use Rattle.rc_core.specs.Version.{end_position}
use Rattle.rc_stream.specs.Places.{Reaches}
use Rattle.rc_cacheread.specs.Passing.{IsKnownFrom, IsKnownOver}
use Rattle.rc_cacheread.specs.laws.Orders.{either-way, never-before, reach-through}
use Rattle.rc_position.specs.declared.slices.Slice.{Slice}
use Rattle.rc_query.specs.declared.lines.OutLine.{OutLine}
use Rattle.rc_query.specs.declared.lines.OutLine.TheVariants as line
use Rattle.rc_cursor.specs.Snapshots.{Knows}
use Rattle.rc_cacheread.specs.Spots.{stand}
use Rattle.rc_cacheread.specs.laws.Passing.{over-less}
use Rattle.rc_memory.specs.Memory.{Memory}
use Rattle.rc_chain.specs.declared.chains.Snap.{Snap}
use Rattle.rc_stream.specs.Stream.{Stream}
use Rattle.rc_filler.specs.Stands.{StandsForWrites}
use Rattle.rc_snapshots.specs.Seeing.{SeeSameChanges, SeesAllOf, SeesSameChanges, StillSees}
use Rattle.rc_snapshots.specs.Streams.{SeesChanges}
use Rattle.rc_cached.specs.declared.fillers.StreamFiller.{StreamFiller}
use Rattle.rc_cached.specs.declared.readings.Readings.{Readings}
use Rattle.rc_cached.specs.Streams.{OfCache}
use Rattle.rc_paging.specs.declared.layers.HeldSnaps.{HeldSnaps}
use Rattle.rc_paging.specs.declared.memtables.MemtableStream.{MemtableStream}
use Rattle.rc_paging.specs.declared.pages.PageErr.TheVariants.{Missing, NoMemory}
use Rattle.rc_paging.specs.calls.Layers.{AreLayersOf, IsCacheLayerOf, IsMemtableLayerOf, OfLayers, active_in, cache_snap_in, cached_in, held_in, memtable_snap_in, sealed_in}
use Rattle.rc_paging.specs.Pages.{IsStretchKnown, StandCached, StandFor, page_end, readings_with}
use Rattle.rc_paging.specs.calls.Pages.{why}
use Rattle.rc_paging.specs.calls.Keeping.{IsStreamPassedTo, KeptLayers}
use Rattle.rc_paging.specs.calls.Words.{IsReadIn, IsReaderIn}

-- ---- the snapshots of layers

memtable_own : (snap : Option Snap) (r : Option MemtableStream) → IsMemtableLayerOf snap r → memtable_snap_in r ≡ snap
memtable_own None None is = refl
memtable_own None (Some r) is = absurd is
memtable_own (Some s) None is = absurd is
memtable_own (Some s) (Some r) is = ap Some is.snap

cache_own : (snap : Option Snap) (r : Option OfCache) → IsCacheLayerOf snap r → cache_snap_in r ≡ snap
cache_own None None is = refl
cache_own None (Some r) is = absurd is
cache_own (Some s) None is = absurd is
cache_own (Some s) (Some r) is = ap Some is.snap

pub own_held : (held : HeldSnaps) (s : OfLayers) → AreLayersOf held s → held_in s ≡ held
own_held held s are =
    let sealed = memtable_own held.written.sealed (sealed_in s) are.sealed in
    let active = memtable_own held.written.active (active_in s) are.active in
    let cached = cache_own held.cached (cached_in s) are.cached in
    λ i. record { cached = cached i; written = record { sealed = sealed i; active = active i } }

-- ---- what they stand for

stand_cached : (S : ℕ) (below : List Mutation) (m n : Memory) (w : Readings) (snap : Option Snap) (r : Option OfCache) → IsCacheLayerOf snap r → IsReaderIn S below n w r → StandCached S below m snap → StandCached S below n snap
stand_cached S below m n w None None is reads stand = stand
stand_cached S below m n w None (Some r) is reads stand = absurd is
stand_cached S below m n w (Some s) None is reads stand = absurd is
stand_cached S below m n w (Some s) (Some r) is reads stand =
    let now = subst (λ (f : StreamFiller). StandsForWrites S n f.filler.chain f.filler.pin below) is.filler reads.stands in
    record { ready = record { snapshot = now.snapshot; roomy = stand.ready.roomy }; stands = now }

pub sees_still : (changes : List Mutation) (m n : Memory) → ((old new : Memory) (s : Snap) → SeesChanges changes old s → StillSees s old new → SeesChanges changes new s) → (snap : Option Snap) → ((s : Snap) → snap ≡ Some s → SeesChanges changes m s → StillSees s m n) → SeesAllOf changes m snap → SeesAllOf changes n snap
sees_still changes m n law None still sees = sees
sees_still changes m n law (Some s) still sees = law m n s sees (still s refl sees)

pub stand_still : (S : ℕ) (held : HeldSnaps) (below writes later : List Mutation) (m n : Memory) (w v : Readings) (s t : OfLayers) → ((changes : List Mutation) (old new : Memory) (s : Snap) → SeesChanges changes old s → StillSees s old new → SeesChanges changes new s) →
    KeptLayers S (s, m, w) (t, n, v) → AreLayersOf held s → IsReaderIn S below m w (cached_in s) → StandFor S m held below writes later → StandFor S n held below writes later
stand_still S held below writes later m n w v s t law kept are reads stand = record {
  cached = stand_cached S below m n v held.cached (cached_in t) (kept.layers held are).cached (kept.reader below reads) stand.cached;
  sealed = sees_still writes m n (law writes) held.written.sealed (λ z _ sees. kept.chains.memtables z (record { pin = sees.pin; kind = sees.kind })) stand.sealed;
  active = sees_still later m n (law later) held.written.active (λ z _ sees. kept.chains.memtables z (record { pin = sees.pin; kind = sees.kind })) stand.active;
}

-- ---- what was missed

some_or : {X : Type 0} (a : Option X) (x : X) → IsSome (option_or a (Some x))
some_or None x = refl
some_or (Some y) x = refl

pub missing_of : (snap : Option Snap) (read : Option Stream) (r : Option OfCache) (missed : Bool) → IsCacheLayerOf snap r → (IsReadIn (readings_with read) r → missed ≡ false) → why missed ≡ Missing → IsSome snap × (read ≡ None)
missing_of (Some s) None r missed is h e = (refl, refl)
missing_of None read None missed is h e = (let none : NoMemory ≡ Missing = sym (ap why (h tt)) ∙ e in absurd (cc))
missing_of None read (Some r) missed is h e = absurd is
missing_of (Some s) (Some l) None missed is h e = absurd is
missing_of (Some s) (Some l) (Some r) missed is h e = (let none : NoMemory ≡ Missing = sym (ap why (h (some_or r.below.list l))) ∙ e in absurd (cc))

-- ---- over other chains

pub stand_over : (S : ℕ) (held : HeldSnaps) (m n : Memory) (below writes later : List Mutation) → ((changes : List Mutation) (old new : Memory) (o : Option Snap) → IfSome o (λ s. SeesSameChanges s old new) → SeesAllOf changes old o → SeesAllOf changes new o) →
    StandCached S below n held.cached → SeeSameChanges held.written m n → StandFor S m held below writes later → StandFor S n held below writes later
stand_over S held m n below writes later law cached same stand = record {
  cached = cached;
  sealed = law writes m n held.written.sealed same.sealed stand.sealed;
  active = law later m n held.written.active same.active stand.active;
}

-- ---- what was passed

-- a page looks up to the same place for its next line alone
pub next_alone : (lines : List OutLine) (slice : Slice) → page_end (take 1 lines) slice ≡ page_end lines slice
next_alone [] slice = refl
next_alone (line.Static values ∷ lines) slice = refl
next_alone (line.Row key values ∷ lines) slice = refl

-- up to where a stream stands each position is known, and that is behind y, or where the partition ends
by_place : (r : OfCache) (m : Memory) (w : Readings) (x y : Pos) (h : IsStreamPassedTo x y m w r) → IsKnownOver (Knows m h.whole.passed.snap) x (stand r.spot) → (z : Pos) → Reaches x z → Reaches z y → IsBefore z end_position → IsKnownFrom (Knows m h.whole.passed.snap) x z
by_place r m w x y h d z from upto before =
    let place = stand r.spot in
    elim h.behind as (λ _. IsKnownFrom (Knows m h.whole.passed.snap) x z) [
      | inl b ↦ d z from (elim (either-way place z) as (λ _. IsBefore z place) [ inl k ↦ absurd (never-before y place (reach-through place z y k upto) b) | inr c ↦ c ])
      | inr e ↦ over-less (Knows m h.whole.passed.snap) x end_position place e d z from before
    ]

-- what the stream of a snapshot passed is known to it
pub passed_of : (snap : Option Snap) (c : Option OfCache) (m : Memory) (w : Readings) (x y : Pos) → IsCacheLayerOf snap c → IfSome c (IsStreamPassedTo x y m w) → IfSome snap (IsStretchKnown m x y)
passed_of None c m w x y is h = tt
passed_of (Some s) None m w x y is h = absurd is
passed_of (Some s) (Some r) m w x y is h =
    let p = h.whole.passed in
    subst (IsStretchKnown m x y) (sym p.of.snap ∙ is.snap) (record { static_row = h.whole.static_row; each = by_place r m w x y h p.each })
