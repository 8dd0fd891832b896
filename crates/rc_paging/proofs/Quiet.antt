-- Where what calls of an open reader's layers pass is known to the snapshot of the row cache, chains and readings stay as they are.
use Rattle.std.proofs.Common.{◌≡◌, ◌≤◌, arith, ℕ, Bool, true, false, Option, Some, None, sym, ap, subst, inl, inr, ◌∙◌}
use Rattle.std.specs.Option.{IfSome}
use Rattle.rc_position.specs.declared.positions.Pos.{Pos}
use Rattle.rc_memory.specs.Memory.{Memory}
use Rattle.rc_chain.specs.declared.chains.Snap.{Snap}
use Rattle.rc_stream.specs.Did.{Call.OfHead, Call.OfNext, Call.OfSeek, InTurn}
use Rattle.rc_stream.specs.Places.{Reaches}
use Rattle.rc_stream.specs.laws.Ordered.{passes-itself}
use Rattle.rc_cursor.specs.Snapshots.{IsHeadSeen, Knows}
use Rattle.rc_cacheread.specs.Did.{IsGoneTo, IsKnownFor}
use Rattle.rc_cacheread.specs.Sharing.{IsStaticRowKnown}
use Rattle.rc_cacheread.specs.Spots.{stand}
use Rattle.rc_cacheread.specs.laws.Orders.{reach-through, same-place}
use Rattle.rc_stream.specs.Stream.{Stream}
use Rattle.rc_reader.specs.declared.work.Work.{Work}
use Rattle.rc_reader.specs.Steps.{GoesNoFurther, OneStep, OpenCalls}
use Rattle.rc_cached.specs.declared.readings.Readings.{Readings}
use Rattle.rc_cached.specs.Streams.{OfCache}
use Rattle.rc_paging.specs.Optional.{WithBoth}
use Rattle.rc_paging.specs.Pages.{IsStretchKnown}
use Rattle.rc_paging.specs.calls.Keeping.{AreAhead, IsPlacedAt, IsQuiet, IsStreamAhead, Three}
use Rattle.rc_paging.specs.calls.Layers.{IsCacheLayerOf, OfLayers, cached_in}
use Rattle.rc_paging.specs.calls.Words.{IsStaticKnownIn}
use Rattle.rc_paging.proofs.Along.{Keeps, OfHomes, OfStream, any_along, opens_along, reads_along}
use Rattle.rc_paging.proofs.Called.{CallLaws, before_end, cached_did, layers_did, of_some}

-- ---- reads

-- fewer lines are found where more are
pub fewer : (P : Stream → Type 0) (w : Work) (n m : ℕ) (y : Pos) → m ≤ n → GoesNoFurther P w n y → GoesNoFurther P w m y
fewer P w n m y less (inl e) = inl e
fewer P w n m y less (inr h) = inr (h.0, h.1, omega (arith, less, h.2))

pub quiet_then : (s t u : Three) → IsQuiet s t → IsQuiet t u → IsQuiet s u
quiet_then s t u a b = record { home = b.home ∙ a.home; store = b.store ∙ a.store }

-- a seek to a place that is not behind it leaves a stream where it stands
pub sought : (x : Pos) (a b : OfCache) (ok : Bool) → Reaches x (stand a.spot) → IsGoneTo (OfSeek x) ok a.spot b.spot → stand b.spot ≡ stand a.spot
sought x a b true r g = elim g.stands as (λ _. stand b.spot ≡ stand a.spot) [
  | inl q ↦ q
  | inr q ↦ q.1 ∙ same-place x (stand a.spot) r q.0
]
sought x a b false r g = g

-- ---- the cached stream

-- chains and readings are as they were
abbrev pub Still : OfHomes
Still m w n v = (n ≡ m) × (v ≡ w)

still_same : (m n : Memory) (w v : Readings) → n ≡ m → v ≡ w → Still m w n v
still_same m n w v home store = (home, store)

still_more : (l m n : Memory) (u w v : Readings) → Still l u m w → Still m w n v → Still l u n v
still_more l m n u w v a b = (b.0 ∙ a.0, b.1 ∙ a.1)

quiet_of : (s t : Three) → Still s.1 s.2 t.1 t.2 → IsQuiet s t
quiet_of s t d = record { home = d.0; store = d.1 }

module _ (S : ℕ) (laws : CallLaws S) (x y : Pos) (snap : Option Snap) where
  abbrev Ahead : OfStream
  Ahead m w r = IsStreamAhead x y snap m r

  -- so is the static row known
  abbrev AheadWhole : OfStream
  AheadWhole m w r = IsStreamAhead x y snap m r × IsStaticRowKnown (IsHeadSeen m r.known.snap)

  snap_same : (o : Option Snap) (a b : OfCache) → IsCacheLayerOf o (Some a) → IsCacheLayerOf o (Some b) → b.known.snap ≡ a.known.snap
  snap_same None a b i j = absurd i
  snap_same (Some s) a b i j = j.snap ∙ sym i.snap

  pub next_quiet : Keeps S Still (OfNext y) Ahead Ahead
  next_quiet a m w ok b n v d h =
      let e = laws.known a m w (OfNext y) ok b n v d h.known in
      ((e.0, e.1), λ _. record { of = of_some S laws a b (laws.leaves a m w (OfNext y) ok b n v d).2 snap h.of; on = reach-through x (stand a.spot) (stand b.spot) h.on d.on; known = e.3 })

  -- where it stands where it stood, and nothing else changed
  still : (a b : OfCache) (m n : Memory) (w v : Readings) → n ≡ m → IsCacheLayerOf snap (Some b) → stand b.spot ≡ stand a.spot → b.to ≡ a.to → Ahead m w a → Ahead n v b
  still a b m n w v home of st to h = record {
    of = of;
    on = subst (Reaches x) (sym st) h.on;
    known = subst (λ (q : Memory × Snap × Pos × Pos). IsKnownFor (OfNext y) (Knows q.0 q.1) (IsHeadSeen q.0 q.1) q.2 q.3) (λ i. (sym home i, sym (snap_same snap a b h.of of) i, sym st i, sym to i)) h.known;
  }

  seek_quiet : Keeps S Still (OfSeek x) Ahead Ahead
  seek_quiet a m w ok b n v d h =
      let e = laws.known a m w (OfSeek x) ok b n v d tt in
      ((e.0, e.1), λ _. still a b m n w v e.0 (of_some S laws a b (laws.leaves a m w (OfSeek x) ok b n v d).2 snap h.of) (sought x a b ok h.on d.gone) d.to h)

  head_quiet : Keeps S Still OfHead AheadWhole Ahead
  head_quiet a m w ok b n v d h =
      let e = laws.known a m w OfHead ok b n v d h.1 in
      ((e.0, e.1), λ _. still a b m n w v e.0 (of_some S laws a b (laws.leaves a m w OfHead ok b n v d).2 snap h.0.of) (ap stand d.gone) d.to h.0)

  pub reads_quiet : (ok : Bool) (s t : Three) → InTurn (OneStep (layers_did S laws) (OfNext y)) ok s t → AreAhead x y snap s → IsQuiet s t × (ok ≡ true → AreAhead x y snap t)
  reads_quiet ok s t h a = (let e = reads_along S laws x y Still still_same still_more Ahead next_quiet seek_quiet ok s t h a in (quiet_of s t e.0, e.1))

  whole : (m : Memory) (w : Readings) (r : Option OfCache) → IfSome r (Ahead m w) → IsStaticKnownIn m r → IfSome r (AheadWhole m w)
  whole m w None h k = tt
  whole m w (Some r) h k = (h, k)

  pub opens_quiet : (ok : Bool) (s t : Three) → OpenCalls (layers_did S laws) x ok s t → IsStaticKnownIn s.1 (cached_in s.0) → AreAhead x y snap s → IsQuiet s t × (ok ≡ true → AreAhead x y snap t)
  opens_quiet ok s t h k a = (let e = opens_along S laws x y Still still_same still_more AheadWhole Ahead head_quiet ok s t h (record { due = a.due; cached = whole s.1 s.2 (cached_in s.0) a.cached k }) in (quiet_of s t e.0, e.1))

  -- a call for the next of a stream that may be
  pub quiet_one : (r t : Option OfCache) (m : Memory) (w : Readings) (ok : Bool) (n : Memory) (v : Readings) → WithBoth (λ a b. cached_did S a m w (OfNext y) ok b n v) ((n ≡ m) × (v ≡ w)) r t → IfSome r (IsStreamAhead x y snap m) → ((n ≡ m) × (v ≡ w)) × (ok ≡ true → IfSome t (IsStreamAhead x y snap n))
  quiet_one r t m w ok n v d h = any_along S laws x y Still still_same still_more (OfNext y) Ahead Ahead next_quiet r t m w ok n v d h

-- ---- the beginning

module _ (S : ℕ) (x y : Pos) (snap : Option Snap) where
  begun_stream : (m : Memory) (o : Option Snap) (c : Option OfCache) → IsCacheLayerOf o c → IfSome c (λ r. stand r.spot ≡ x) → IfSome o (IsStretchKnown m x y) → IfSome c (λ r. IsCacheLayerOf o (Some r) × Reaches x (stand r.spot) × IsKnownFor (OfNext y) (Knows m r.known.snap) (IsHeadSeen m r.known.snap) (stand r.spot) r.to)
  begun_stream m None None is at k = tt
  begun_stream m None (Some r) is at k = absurd is
  begun_stream m (Some s) None is at k = absurd is
  begun_stream m (Some s) (Some r) is at k = (
    is,
    subst (Reaches x) (sym at) (passes-itself x),
    subst (λ (q : Snap × Pos). IsKnownFor (OfNext y) (Knows m q.0) (IsHeadSeen m q.0) q.1 r.to) (λ i. (sym is.snap i, sym at i)) (λ z from upto before. k.each z from upto (before_end z r.to before)),
  )

  ahead_of : (m : Memory) (c : Option OfCache) → IfSome c (λ r. IsCacheLayerOf snap (Some r) × Reaches x (stand r.spot) × IsKnownFor (OfNext y) (Knows m r.known.snap) (IsHeadSeen m r.known.snap) (stand r.spot) r.to) → IfSome c (IsStreamAhead x y snap m)
  ahead_of m None h = tt
  ahead_of m (Some r) h = record { of = h.0; on = h.1; known = h.2 }

  pub begun : (m : Memory) (w : Readings) (s : OfLayers) → IsCacheLayerOf snap (cached_in s) → IsPlacedAt x s → IfSome snap (IsStretchKnown m x y) → AreAhead x y snap (s, m, w)
  begun m w s is placed k = record {
    due = subst (λ o. IfSome o (λ u. u ≡ x)) (sym placed.due) tt;
    cached = ahead_of m (cached_in s) (begun_stream m snap (cached_in s) is placed.at k);
  }

  static_of : (m : Memory) (o : Option Snap) (c : Option OfCache) → IsCacheLayerOf o c → IfSome o (IsStretchKnown m x y) → IsStaticKnownIn m c
  static_of m None None is k = tt
  static_of m None (Some r) is k = absurd is
  static_of m (Some s) None is k = absurd is
  static_of m (Some s) (Some r) is k = subst (λ q. IsStaticRowKnown (IsHeadSeen m q)) (sym is.snap) k.static_row

  pub begun_static : (m : Memory) (s : OfLayers) → IsCacheLayerOf snap (cached_in s) → IfSome snap (IsStretchKnown m x y) → IsStaticKnownIn m (cached_in s)
  begun_static m s is k = static_of m snap (cached_in s) is k
