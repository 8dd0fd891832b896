-- A cached stream as it is made, over readings that say what writes say.
use Rattle.std.specs.Prelude.{◌≡◌, true, false, All, List, [], ◌∷◌, Option, Some, None, IfSome}
use Rattle.std.proofs.Common.{refl, sym, ap, ◌∙◌, subst}
use Rattle.std.specs.declared.cmp.Ordering.TheVariants.{Less, Equal, Greater}
use Rattle.std.specs.Option.{option_or}
use Rattle.std.specs.Ordering.{is_gt}
use Rattle.rc_cell.specs.Winner.{empty_row}
use Rattle.rc_position.specs.declared.positions.Pos.{Pos}
use Rattle.rc_position.specs.Position.{IsBefore, pos_cmp}
use Rattle.rc_position.specs.laws.Bounds.{last_pos-greatest}
use Rattle.rc_position.specs.laws.Orders.{pos_cmp_total, pos_cmp_same}
use Rattle.rc_mutation.specs.declared.mutations.Mutation.{Mutation}
use Rattle.rc_mutation.specs.Fragments.{fragments}
use Rattle.rc_mutation.specs.Source.{IsMutation, SameSource, source_at, source_at_head, source_at_static}
use Rattle.rc_core.specs.Version.{end_position}
use Rattle.rc_chain.specs.declared.chains.Snap.{Snap}
use Rattle.rc_schema.specs.SchemaValue.{SchemaValue}
use Rattle.rc_stream.specs.Showing.{IsFromStart}
use Rattle.rc_stream.specs.Snapshot.{SayThere}
use Rattle.rc_stream.specs.Stream.{Stream, stream_of}
use Rattle.rc_writes.specs.Allowed.{ChangeFits}
use Rattle.rc_cursor.specs.declared.readers.SnapshotReader.{SnapshotReader}
use Rattle.rc_cacheread.specs.declared.readers.Stage.TheVariants.{Away}
use Rattle.rc_cacheread.specs.declared.spots.RowAt.TheVariants.{Unread}
use Rattle.rc_cacheread.specs.Reading.{AreRowsApart, Reads, said_at}
use Rattle.rc_cacheread.specs.Sharing.{Fits, IsPlaceAt}
use Rattle.rc_cacheread.specs.Spots.{stand}
use Rattle.rc_snapshots.specs.Streams.{first_position, from_start}
use Rattle.rc_cached.specs.declared.readings.Readings.{Readings}
use Rattle.rc_cached.specs.declared.underlying.Underlying.{Underlying}
use Rattle.rc_cached.specs.Below.{LiesBelow, MayLieUnread, nothing_read}
use Rattle.rc_cached.specs.calls.Parts.{of_snapshot}
use Rattle.rc_cached.specs.Streams.{IsNewCached, IsOfCached, IsReadOf, IsRestOf, OfCache, SayBelow, SaysFrom, StillSays, filler_for, read_below}
use Rattle.rc_cached.proofs.Unread.{first-reaches, fits-whole, marked, may-marked}

pub new-is-of : (s : Snap) (r : OfCache) → IsNewCached s r → IsOfCached s r
new-is-of s r is = record { snap = ap (λ (k : SnapshotReader). k.snap) is.known; filler = is.filler }

-- a new stream, with what is not looked at
abbrev made : Snap → Option Pos → OfCache
made s since = record {
  known = from_start s;
  below = record { list = None };
  filler = filler_for s;
  to = end_position;
  spot = record { place = first_position; row = Unread; told = None; again = None; tomb = None; since = since };
  stage = Away;
  lags = true;
}

is-made : (s : Snap) (r : OfCache) → IsNewCached s r → r ≡ made s r.spot.since
is-made s r is = λ i. record {
  known = is.known i;
  below = is.below i;
  filler = is.filler i;
  to = is.to i;
  spot = record { place = is.place i; row = is.row i; told = is.told i; again = is.again i; tomb = is.tomb i; since = r.spot.since };
  stage = is.stage i;
  lags = is.lags i;
}

pub new-place : (s : Snap) (r : OfCache) → IsNewCached s r → IsPlaceAt r.lags (of_snapshot.place r.known) (stand r.spot)
new-place s r is = subst (λ (q : OfCache). IsPlaceAt q.lags (of_snapshot.place q.known) (stand q.spot)) (sym (is-made s r is)) (first-reaches first_position)

-- ---- what a mutation's stream says

-- what says the same
pub same-then : {a b c : List Mutation} → SameSource a b → SameSource b c → SameSource a c
same-then x y = record { head = x.head ∙ y.head; statics = x.statics ∙ y.statics; clustered = λ p. x.clustered p ∙ y.clustered p }

pub same-back : {a b : List Mutation} → SameSource a b → SameSource b a
same-back x = record { head = sym x.head; statics = sym x.statics; clustered = λ p. sym (x.clustered p) }

-- a stream from the first of all positions on that says what writes say
pub record SaysWrites (writes : List Mutation) (t : Stream) : Type 0 where
  pub whole : IsFromStart t
  pub reads : Reads (SayThere writes) first_position end_position None t.left
  pub pt : source_at_head writes ≡ t.head.pt
  pub statics : source_at_static writes ≡ t.head.statics

-- the laws of the streams of mutations
pub record MutationLaws : Type 0 where
  pub whole : (m : Mutation) → IsMutation m → IsFromStart (stream_of (fragments m))
  pub fits : (schema : SchemaValue) (said : Mutation) (writes : List Mutation) → IsMutation said → SameSource (said ∷ []) writes → All (ChangeFits schema) writes → ChangeFits schema said
  pub reads : (schema : SchemaValue) (m : Mutation) → IsMutation m → ChangeFits schema m → Reads (SayThere (m ∷ [])) first_position end_position None (stream_of (fragments m)).left
  pub pt : (m : Mutation) → IsMutation m → (stream_of (fragments m)).head.pt ≡ source_at_head (m ∷ [])
  pub statics : (m : Mutation) → IsMutation m → (stream_of (fragments m)).head.statics ≡ source_at_static (m ∷ [])

pub says-writes : MutationLaws → (schema : SchemaValue) (writes : List Mutation) → All (ChangeFits schema) writes → (said : Mutation) → IsMutation said → SameSource (said ∷ []) writes → SaysWrites writes (stream_of (fragments said))
says-writes laws schema writes fit said is same =
    let reads = laws.reads schema said is (laws.fits schema said writes is same fit) in
    record {
      whole = laws.whole said is;
      reads = record { ordered = reads.ordered; telling = reads.telling; written = reads.written; apart = reads.apart; from = reads.from; within = λ y v a b e. reads.within y v a b (same.clustered y ∙ e); beyond = reads.beyond };
      pt = sym same.head ∙ sym (laws.pt said is);
      statics = sym same.statics ∙ sym (laws.statics said is);
    }

before-end : (x y : Pos) → IsBefore x y → IsBefore x end_position
before-end x y b =
    elim (pos_cmp y end_position) as (λ r. pos_cmp y end_position ≡ r → IsBefore x end_position) [
      | Less ↦ λ e. pos_cmp_total.trans x y end_position b e
      | Equal ↦ λ e. subst (IsBefore x) (pos_cmp_same y end_position e) b
      | Greater ↦ λ e. (let none : true ≡ false = sym (ap is_gt e) ∙ last_pos-greatest y in absurd (cc))
    ] refl

-- so it says it from any place on
pub says-from : (writes : List Mutation) (x to : Pos) (t : Stream) → SaysWrites writes t → SaysFrom writes x to t
says-from writes x to t d = record {
  each = λ y a b. subst (λ u. source_at writes y ≡ said_at y u t.left) (sym d.whole.0) (d.reads.within y (source_at writes y) (first-reaches y) (before-end y to b) refl);
  static_row = d.statics;
}

-- ---- what is below still says

read-says : MutationLaws → (schema : SchemaValue) (writes : List Mutation) → All (ChangeFits schema) writes → (t : Stream) → IsReadOf writes t → SaysWrites writes t
read-says laws schema writes fit t d = subst (SaysWrites writes) (sym d.fragments) (says-writes laws schema writes fit d.join d.mutation d.same)

-- what is read now fits where nothing was read and any stream may lie, and says what writes say
pub still-handed : MutationLaws → (schema : SchemaValue) (writes others : List Mutation) → All (ChangeFits schema) writes → (r : OfCache) (w v : Readings) → read_below r w ≡ None → StillSays others w r → SayBelow writes v → StillSays writes v r
still-handed laws schema writes others fit r w v none said say = record {
  fits = λ t h. fits_now t (subst (λ o. LiesBelow o t) now h);
  says = subst (λ o. IfSome o (SaysFrom writes (stand r.spot) r.to)) (sym now) (says_now v.list say);
} where
  first_none : (a b : Option Stream) → option_or a b ≡ None → a ≡ None
  first_none None b n = refl
  first_none (Some x) b n = absurd (cc)

  now : read_below r v ≡ v.list
  now = ap (λ a. option_or a v.list) (first_none r.below.list w.list none)

  -- each stream fits that may lie there while nothing was read
  any : (t : Stream) → MayLieUnread t → Fits r.stage (stand r.spot) r.spot.tomb t
  any t m = said.fits t (subst (λ o. LiesBelow o t) (sym none) m)

  fits_whole : (t : Stream) → IsFromStart t → AreRowsApart t.left → Fits r.stage (stand r.spot) r.spot.tomb t
  fits_whole t whole apart =
      let m = may-marked empty_row None [] tt tt tt in
      fits-whole r.stage (stand r.spot) r.spot.tomb (marked empty_row None []) t m (any (marked empty_row None []) m) whole apart

  fits_read : (o : Option Stream) → IfSome o (IsReadOf writes) → (t : Stream) → LiesBelow o t → Fits r.stage (stand r.spot) r.spot.tomb t
  fits_read None d t m = any t m
  fits_read (Some x) d t e = (let y = read-says laws schema writes fit x d in fits_whole t (subst IsFromStart (sym e) y.whole) (subst (λ (z : Stream). AreRowsApart z.left) (sym e) y.reads.apart))

  fits_now : (t : Stream) → LiesBelow v.list t → Fits r.stage (stand r.spot) r.spot.tomb t
  fits_now t h = fits_read v.list say t h

  says_now : (o : Option Stream) → IfSome o (IsReadOf writes) → IfSome o (SaysFrom writes (stand r.spot) r.to)
  says_now None d = tt
  says_now (Some x) d = says-from writes (stand r.spot) r.to x (read-says laws schema writes fit x d)

-- over nothing read, what may lie below a new stream fits
new-unread : (s : Snap) (r : OfCache) → IsNewCached s r → StillSays [] nothing_read r
new-unread s r is = subst (StillSays [] nothing_read) (sym (is-made s r is)) (record { fits = λ t m. (m.whole.1, m.apart); says = tt })

-- a new stream over readings that say what writes say
pub new-says : MutationLaws → (schema : SchemaValue) (writes : List Mutation) → All (ChangeFits schema) writes → (s : Snap) (r : OfCache) (w : Readings) → IsNewCached s r → SayBelow writes w → StillSays writes w r
new-says laws schema writes fit s r w is say = still-handed laws schema writes [] fit r nothing_read w (ap (λ (b : Underlying). option_or b.list None) is.below) (new-unread s r is) say

-- what writes leave to a new stream is all that they say
pub new-rest : (writes : List Mutation) (s : Snap) (r : OfCache) (t : Stream) → IsNewCached s r → SaysWrites writes t → IsRestOf writes r t
new-rest writes s r t is d = subst (λ q. IsRestOf writes q t) (sym (is-made s r is)) (record {
  rest = t.left;
  tomb = d.whole.0;
  left = refl;
  reads = d.reads;
  pt = d.pt;
  static_row = d.statics;
})
