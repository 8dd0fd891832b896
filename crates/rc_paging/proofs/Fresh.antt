-- The layers of an open reader, as they are made.
use Rattle.std.proofs.Common.{◌≡◌, ℕ, List, Option, Some, None, MatchOption, sym, subst, inl, inr}
use Rattle.std.specs.Option.{IfSome, option_or}
use Rattle.rc_mutation.specs.declared.mutations.Mutation.{Mutation}
use Rattle.rc_mutation.specs.Fragments.{fragments}
use Rattle.rc_mutation.specs.Source.{IsJoinOf, IsMutation}
use Rattle.rc_memory.specs.Memory.{Memory}
use Rattle.rc_chain.specs.declared.chains.Snap.{Snap}
use Rattle.rc_stream.specs.Moving.{Once}
use Rattle.rc_stream.specs.Stream.{stream_of}
use Rattle.rc_cacheread.specs.Sharing.{IsReaderOf}
use Rattle.rc_cacheread.specs.Spots.{stand}
use Rattle.rc_filler.specs.Stands.{StandsForWrites}
use Rattle.rc_snapshots.specs.Seeing.{HasSnap, SeesAllOf}
use Rattle.rc_snapshots.specs.Streams.{IsNewStream, IsOf, SeesChanges}
use Rattle.rc_opened.specs.Written.{OfSnapshot, nothing_said}
use Rattle.rc_cached.specs.declared.fillers.StreamFiller.{StreamFiller}
use Rattle.rc_cached.specs.declared.readings.Readings.{Readings}
use Rattle.rc_cached.specs.Leaving.{LeavesChains}
use Rattle.rc_cached.specs.Streams.{IsNewCached, IsOfCached, OfCache, StillSays, read_below}
use Rattle.rc_paging.specs.declared.memtables.MemtableStream.{MemtableStream}
use Rattle.rc_paging.specs.calls.Layers.{IsCacheLayerOf, IsMemtableLayerOf, IsNewCacheLayer, IsNewMemtableLayer}
use Rattle.rc_paging.specs.Memtables.{IsOfMemtable}
use Rattle.rc_paging.specs.Pages.{StandCached, StandsCached}
use Rattle.rc_paging.specs.calls.Standing.{StillSeesIn}
use Rattle.rc_paging.specs.calls.Words.{IsUnreadIn}
use Rattle.rc_cached.specs.calls.Parts.{of_its_filler, of_snapshot, of_underlying}
use Rattle.rc_paging.proofs.Leaving.{leaves_on}
use Rattle.rc_paging.proofs.Saying.{says_nothing}
use Rattle.rc_paging.proofs.Unread.{leads}

-- ---- memtables

of_new : (changes : List Mutation) (m : Memory) (s : Snap) (r : MemtableStream) → IsOf s r.stream → SeesChanges changes m s → IsOfMemtable m r
of_new changes m s r of sees = record { there = subst (HasSnap m) (sym of.snap) (record { pin = sees.pin; kind = sees.kind }); of = subst (λ z. IsOf z r.stream) (sym of.snap) of }

pub memtable_ready : (P : OfSnapshot → Type 0) (changes : List Mutation) (m : Memory) → ((s : Snap) (r : OfSnapshot) → IsNewStream s r → SeesChanges changes m s → P r) → ((s : Snap) (r : OfSnapshot) → IsNewStream s r → IsOf s r) →
    (snap : Option Snap) (r : Option MemtableStream) → IsNewMemtableLayer snap r → SeesAllOf changes m snap → IfSome r (λ q. IsOfMemtable m q × P q.stream)
memtable_ready P changes m law made None None new sees = tt
memtable_ready P changes m law made None (Some r) new sees = absurd new
memtable_ready P changes m law made (Some s) None new sees = absurd new
memtable_ready P changes m law made (Some s) (Some r) new sees = (of_new changes m s r (made s r.stream new) sees, law s r.stream new sees)

pub memtable_seen : (P : OfSnapshot → Type 0) (changes : List Mutation) (a : Mutation) (m : Memory) → IsMutation a → IsJoinOf a changes → ((s : Snap) (r : OfSnapshot) → IsNewStream s r → SeesChanges changes m s → P r) → ((s : Snap) (r : OfSnapshot) → IsNewStream s r → IsOf s r) →
    (snap : Option Snap) (r : Option MemtableStream) → IsNewMemtableLayer snap r → SeesAllOf changes m snap → MatchOption r (stream_of (fragments a) ≡ nothing_said) (λ q. IsOfMemtable m q × P q.stream)
memtable_seen P changes a m is j law made None None new sees = says_nothing a is (subst (IsJoinOf a) sees j)
memtable_seen P changes a m is j law made None (Some r) new sees = absurd new
memtable_seen P changes a m is j law made (Some s) None new sees = absurd new
memtable_seen P changes a m is j law made (Some s) (Some r) new sees = (of_new changes m s r (made s r.stream new) sees, law s r.stream new sees)

pub memtable_of : ((s : Snap) (r : OfSnapshot) → IsNewStream s r → IsOf s r) → (snap : Option Snap) (r : Option MemtableStream) → IsNewMemtableLayer snap r → IsMemtableLayerOf snap r
memtable_of made None None new = new
memtable_of made None (Some r) new = absurd new
memtable_of made (Some s) None new = absurd new
memtable_of made (Some s) (Some r) new = made s r.stream new

-- ---- the row cache

pub cache_ready : (S : ℕ) (P : OfCache → Type 0) (below : List Mutation) (m : Memory) → ((s : Snap) (r : OfCache) → IsNewCached s r → StandsCached S below m s → P r) → (snap : Option Snap) (r : Option OfCache) → IsNewCacheLayer snap r → StandCached S below m snap → IfSome r P
cache_ready S P below m law None None new stand = tt
cache_ready S P below m law None (Some r) new stand = absurd new
cache_ready S P below m law (Some s) None new stand = absurd new
cache_ready S P below m law (Some s) (Some r) new stand = law s r new stand

pub cache_seen : (S : ℕ) (P : OfCache → Type 0) (below : List Mutation) (a : Mutation) (m : Memory) → IsMutation a → IsJoinOf a below → ((s : Snap) (r : OfCache) → IsNewCached s r → StandsCached S below m s → P r) →
    (snap : Option Snap) (r : Option OfCache) → IsNewCacheLayer snap r → StandCached S below m snap → MatchOption r (stream_of (fragments a) ≡ nothing_said) P
cache_seen S P below a m is j law None None new stand = says_nothing a is (subst (IsJoinOf a) stand j)
cache_seen S P below a m is j law None (Some r) new stand = absurd new
cache_seen S P below a m is j law (Some s) None new stand = absurd new
cache_seen S P below a m is j law (Some s) (Some r) new stand = law s r new stand

pub cache_of : ((s : Snap) (r : OfCache) → IsNewCached s r → IsOfCached s r) → (snap : Option Snap) (r : Option OfCache) → IsNewCacheLayer snap r → IsCacheLayerOf snap r
cache_of made None None new = new
cache_of made None (Some r) new = absurd new
cache_of made (Some s) None new = absurd new
cache_of made (Some s) (Some r) new = made s r new

-- nothing is handed in below a new stream
pub cache_unread : (snap : Option Snap) (r : Option OfCache) (w : Readings) → IsNewCacheLayer snap r → w.list ≡ None → IsUnreadIn w r
cache_unread None None w new none = tt
cache_unread None (Some r) w new none = absurd new
cache_unread (Some s) None w new none = absurd new
cache_unread (Some s) (Some r) w new none = λ i. option_or (new.below i).list (none i)

-- a stream for whose snapshot writes stand, and below which what was read says what they say, is a reader of them
pub reader_of : (S : ℕ) (below : List Mutation) (m : Memory) (w : Readings) (s : Snap) (r : OfCache) → IsOfCached s r → StandsForWrites S m s.chain s.pin below → StillSays below w r → IsReaderOf of_snapshot of_underlying (of_its_filler S) below r m w
reader_of S below m w s r of stands still = record {
  stands = subst (λ (f : StreamFiller). StandsForWrites S m f.filler.chain f.filler.pin below) (sym of.filler) stands;
  covered = inr (leads below (read_below r w) r.stage (stand r.spot) r.to r.spot.tomb still.fits still.says);
}

-- ---- what calls of the cached stream leave

pub leaves_once : {W : Type 0} (P : Memory → W → Memory → W → Type 0) → ((m : Memory) (w : W) (n : Memory) (v : W) → P m w n v → LeavesChains m n) → (m : Memory) (w : W) (n : Memory) (v : W) → Once P m w n v → LeavesChains m n
leaves_once P law m w n v (inl same) = leaves_on m n (sym same.0)
leaves_once P law m w n v (inr d) = law m w n v d

pub still_in : (m n : Memory) (r : Option MemtableStream) → LeavesChains m n → StillSeesIn m n r
still_in m n r leaves q e there = leaves.memtables q.stream.known.snap there
