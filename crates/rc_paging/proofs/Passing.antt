-- What a cached stream passed is known to its snapshot, where nothing is read below it.
use Rattle.std.proofs.Common.{◌≡◌, ℕ, Bool, true, false, Option, Some, None, sym, ap, subst}
use Rattle.std.specs.Option.{IfSome}
use Rattle.rc_position.specs.declared.positions.Pos.{Pos}
use Rattle.rc_memory.specs.Memory.{Memory}
use Rattle.rc_chain.specs.declared.chains.Snap.{Snap}
use Rattle.rc_stream.specs.Did.{Call, Call.OfHead, Call.OfNext, Call.OfSeek, InTurn}
use Rattle.rc_stream.specs.Places.{Reaches}
use Rattle.rc_stream.specs.laws.Ordered.{passes-itself}
use Rattle.rc_cursor.specs.Snapshots.{IsHeadSeen, Knows}
use Rattle.rc_cacheread.specs.Did.{AnswersBelow, IsFilledFor}
use Rattle.rc_cacheread.specs.Passing.{IsKnownOver}
use Rattle.rc_cacheread.specs.Sharing.{IsStaticRowKnown}
use Rattle.rc_cacheread.specs.Spots.{stand}
use Rattle.rc_cacheread.specs.laws.Orders.{reach-through}
use Rattle.rc_cacheread.specs.laws.Passing.{over-nothing, over-over}
use Rattle.rc_reader.specs.Steps.{OneStep, OpenCalls}
use Rattle.rc_cached.specs.declared.readings.Readings.{Readings}
use Rattle.rc_cached.specs.Streams.{IsOfCached, OfCache, read_below}
use Rattle.rc_cached.specs.calls.Parts.{of_underlying}
use Rattle.rc_paging.specs.Optional.{WithBoth}
use Rattle.rc_paging.specs.calls.Keeping.{ArePassed, ArePassedWhole, IsPlacedAt, IsStreamPassed, IsStreamPassedWhole, Three}
use Rattle.rc_paging.specs.calls.Layers.{IsCacheLayerOf, OfLayers, cached_in}
use Rattle.rc_paging.specs.calls.Words.{IsUnreadIn}
use Rattle.rc_paging.proofs.Along.{Keeps, OfHomes, any_along, opens_along, reads_along}
use Rattle.rc_paging.proofs.Called.{CallLaws, cached_did, layers_did, unread_still}
use Rattle.rc_paging.proofs.Quiet.{sought}

-- whatever calls make of chains and readings
abbrev pub Whatever : OfHomes
Whatever m w n v = Unit {0}

any_same : (m n : Memory) (w v : Readings) → n ≡ m → v ≡ w → Whatever m w n v
any_same m n w v home store = tt

any_more : (l m n : Memory) (u w v : Readings) → Whatever l u m w → Whatever m w n v → Whatever l u n v
any_more l m n u w v a b = tt

module _ (S : ℕ) (laws : CallLaws S) (x y : Pos) where
  -- what a call leaves of a stream below which nothing is read
  module _ (c : Call) (a : OfCache) (m : Memory) (w : Readings) (ok : Bool) (b : OfCache) (n : Memory) (v : Readings) (d : cached_did S a m w c ok b n v) (h : IsStreamPassed x m w a) where
    home : n ≡ m
    home = (laws.unread a m w c ok b n v d h.unread).0

    of : IsOfCached h.snap b
    of = (laws.leaves a m w c ok b n v d).2 h.snap h.of

    unread : read_below b v ≡ None
    unread = let e = laws.unread a m w c ok b n v d h.unread in unread_still a b w v h.unread e.1 e.2

    -- no call is answered below
    none_below : AnswersBelow {H = Memory} of_underlying a.below w → ⊥
    none_below (c, g, t, i, u, did) = let e = did.refused h.unread in absurd (cc)

    -- what the call passed is known
    passed_now : ok ≡ true → IsFilledFor c ok (Knows n h.snap) (IsHeadSeen n h.snap) (stand a.spot) (stand b.spot)
    passed_now answered = subst (λ z. IsFilledFor c ok (Knows n z) (IsHeadSeen n z) (stand a.spot) (stand b.spot)) of.snap (d.unanswered answered none_below).now

    -- what was passed before is known still
    passed_before : IsKnownOver (Knows n h.snap) x (stand a.spot)
    passed_before = subst (λ z. IsKnownOver (Knows z h.snap) x (stand a.spot)) (sym home) h.each

    -- where it stands where it stood
    abbrev stood : stand b.spot ≡ stand a.spot → IsStreamPassed x n v b
    stood st = record {
      snap = h.snap;
      of = of;
      unread = unread;
      on = subst (Reaches x) (sym st) h.on;
      each = subst (IsKnownOver (Knows n h.snap) x) (sym st) passed_before;
    }

    static_still : IsStaticRowKnown (IsHeadSeen m h.snap) → IsStaticRowKnown (IsHeadSeen n h.snap)
    static_still = subst (λ z. IsStaticRowKnown (IsHeadSeen z h.snap)) (sym home)

  pub next_passed : Keeps S Whatever (OfNext y) (IsStreamPassedWhole x) (IsStreamPassedWhole x)
  next_passed a m w ok b n v d h =
      let p = h.passed in (
        tt,
        λ answered. record {
          passed = record {
            snap = p.snap;
            of = of (OfNext y) a m w ok b n v d p;
            unread = unread (OfNext y) a m w ok b n v d p;
            on = reach-through x (stand a.spot) (stand b.spot) p.on d.on;
            each = over-over (Knows n p.snap) x (stand a.spot) (stand b.spot) p.on (passed_before (OfNext y) a m w ok b n v d p) (passed_now (OfNext y) a m w ok b n v d p answered);
          };
          static_row = static_still (OfNext y) a m w ok b n v d p h.static_row;
        },
      )

  seek_passed : Keeps S Whatever (OfSeek x) (IsStreamPassedWhole x) (IsStreamPassedWhole x)
  seek_passed a m w ok b n v d h = (
    tt,
    λ _. record {
      passed = stood (OfSeek x) a m w ok b n v d h.passed (sought x a b ok h.passed.on d.gone);
      static_row = static_still (OfSeek x) a m w ok b n v d h.passed h.static_row;
    },
  )

  head_passed : Keeps S Whatever OfHead (IsStreamPassed x) (IsStreamPassedWhole x)
  head_passed a m w true b n v d h = (
    tt,
    λ answered. record {
      passed = stood OfHead a m w true b n v d h (ap stand d.gone);
      static_row = passed_now OfHead a m w true b n v d h answered;
    },
  )
  head_passed a m w false b n v d h = (tt, λ answered. absurd (cc))

  pub reads_passed : (ok : Bool) (s t : Three) → InTurn (OneStep (layers_did S laws) (OfNext y)) ok s t → ArePassedWhole x s → ok ≡ true → ArePassedWhole x t
  reads_passed ok s t h a = (reads_along S laws x y Whatever any_same any_more (IsStreamPassedWhole x) next_passed seek_passed ok s t h a).1

  pub opens_passed : (ok : Bool) (s t : Three) → OpenCalls (layers_did S laws) x ok s t → ArePassed x s → ok ≡ true → ArePassedWhole x t
  opens_passed ok s t h a = (opens_along S laws x y Whatever any_same any_more (IsStreamPassed x) (IsStreamPassedWhole x) head_passed ok s t h a).1

  -- a call for the next of a stream that may be
  pub passes_one : (r t : Option OfCache) (m : Memory) (w : Readings) (ok : Bool) (n : Memory) (v : Readings) → WithBoth (λ a b. cached_did S a m w (OfNext y) ok b n v) ((n ≡ m) × (v ≡ w)) r t → IfSome r (IsStreamPassedWhole x m w) → ok ≡ true → IfSome t (IsStreamPassedWhole x n v)
  passes_one r t m w ok n v d h = (any_along S laws x y Whatever any_same any_more (OfNext y) (IsStreamPassedWhole x) (IsStreamPassedWhole x) next_passed r t m w ok n v d h).1

-- ---- the beginning

module _ (x : Pos) where
  begun_stream : (m : Memory) (w : Readings) (o : Option Snap) (c : Option OfCache) → IsCacheLayerOf o c → IfSome c (λ r. stand r.spot ≡ x) → IsUnreadIn w c → IfSome c (IsStreamPassed x m w)
  begun_stream m w None None is at none = tt
  begun_stream m w None (Some r) is at none = absurd is
  begun_stream m w (Some s) None is at none = absurd is
  begun_stream m w (Some s) (Some r) is at none = record {
    snap = s;
    of = is;
    unread = none;
    on = subst (Reaches x) (sym at) (passes-itself x);
    each = over-nothing (Knows m s) x (stand r.spot) at;
  }

  pub begun_passed : (m : Memory) (w : Readings) (snap : Option Snap) (s : OfLayers) → IsCacheLayerOf snap (cached_in s) → IsPlacedAt x s → IsUnreadIn w (cached_in s) → ArePassed x (s, m, w)
  begun_passed m w snap s is placed none = record {
    due = subst (λ o. IfSome o (λ u. u ≡ x)) (sym placed.due) tt;
    cached = begun_stream m w snap (cached_in s) is placed.at none;
  }
