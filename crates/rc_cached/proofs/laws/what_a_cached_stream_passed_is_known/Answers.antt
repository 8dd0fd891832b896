use Rattle.std.specs.Prelude.{◌≡◌, true, None}
use Rattle.std.proofs.Common.{refl, sym, subst}
use Rattle.std.specs.Option.{option_or}
use Rattle.rc_memory.specs.Memory.{Memory}
use Rattle.rc_chain.specs.declared.chains.Snap.{Snap}
use Rattle.rc_populate.specs.Filling.{MayFill}
use Rattle.rc_cursor.specs.Snapshots.{IsHeadSeen, Knows}
use Rattle.rc_cacheread.specs.Did.{AnswersBelow, IsFilledFor}
use Rattle.rc_cacheread.specs.Spots.{stand}
use Rattle.rc_cached.specs.declared.readings.Readings.{Readings}
use Rattle.rc_cached.specs.declared.underlying.Underlying.{Underlying}
use Rattle.rc_cached.specs.calls.Parts.{of_underlying}
use Rattle.rc_cached.specs.Streams.{IsOfCached, OfCache}
use Rattle.rc_cached.proofs.laws.what_a_cached_stream_passed_is_known.Goals as goal

-- where nothing was read below it answers nothing
unanswered_below : (u : Underlying) (w : Readings) → option_or u.list w.list ≡ None → AnswersBelow {H = Memory} of_underlying u w → ⊥
unanswered_below u w none (d, h, t, g, v, did) = let e = did.refused none in absurd (cc)

-- it may be filled
may-of : (s : Snap) (r : OfCache) (m : Memory) → IsOfCached s r → MayFill m s.chain s.pin → MayFill m r.filler.filler.chain r.filler.filler.pin
may-of s r m of h = subst (λ f. MayFill m f.filler.chain f.filler.pin) (sym of.filler) h

of-may : (s : Snap) (r : OfCache) (m : Memory) → IsOfCached s r → MayFill m r.filler.filler.chain r.filler.filler.pin → MayFill m s.chain s.pin
of-may s r m of h = subst (λ f. MayFill m f.filler.chain f.filler.pin) of.filler h

pub returns-clause-passed : goal.returns-clause-passed
returns-clause-passed g c s r m w call ok t n v of d may none =
    let now = (c.a_cached_stream_leaves_what_others_see.ensures.did r m w call ok t n v d).2 s of in
    subst (λ z. IsFilledFor call ok (Knows n z) (IsHeadSeen n z) (stand r.spot) (stand t.spot)) now.snap (d.filled.now (may-of s r m of may) none)

pub returns-clause-still : goal.returns-clause-still
returns-clause-still g c s r m w call ok t n v of d may none x there k =
    let now = (c.a_cached_stream_leaves_what_others_see.ensures.did r m w call ok t n v d).2 s of in
    subst (λ z. Knows n z x there) now.snap (d.filled.each (may-of s r m of may) none x there (subst (λ z. Knows m z x there) (sym of.snap) k))

pub returns-clause-unread : goal.returns-clause-unread
returns-clause-unread g c s r m w call t n v of d none =
    let now = (c.a_cached_stream_leaves_what_others_see.ensures.did r m w call true t n v d).2 s of in
    subst (λ z. IsFilledFor call true (Knows n z) (IsHeadSeen n z) (stand r.spot) (stand t.spot)) now.snap (d.unanswered refl (λ a. unanswered_below r.below w none a)).now

pub returns-clause-may : goal.returns-clause-may
returns-clause-may g c s r m w call ok t n v of d may =
    let now = (c.a_cached_stream_leaves_what_others_see.ensures.did r m w call ok t n v d).2 s of in
    of-may s t n now (d.filled.still (may-of s r m of may))
