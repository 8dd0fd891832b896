-- What the calls of an open reader's layers keep, one after another.
use Rattle.std.proofs.Common.{◌≡◌, ℕ, Bool, true, false, Option, Some, None, refl, sym, ap, subst, ◌∙◌}
use Rattle.std.specs.declared.cmp.Ordering.TheVariants.{Less, Equal, Greater}
use Rattle.std.specs.Ordering.{is_gt}
use Rattle.std.specs.Option.{IsSome, option_or}
use Rattle.rc_position.specs.declared.positions.Pos.{Pos}
use Rattle.rc_position.specs.Position.{IsBefore, pos_cmp}
use Rattle.rc_position.specs.laws.Bounds.{last_pos-greatest}
use Rattle.rc_position.specs.laws.Orders.{pos_cmp_same, pos_cmp_total}
use Rattle.rc_memory.specs.Memory.{Memory}
use Rattle.rc_chain.specs.declared.chains.Snap.{Snap}
use Rattle.rc_stream.specs.Did.{Call, Call.OfHead, Call.OfNext, Call.OfSeek, Deed, InTurn, OurCall, TheirCall, merge_did, merge_state}
use Rattle.rc_stream.specs.Stream.{Stream}
use Rattle.rc_reader.specs.Steps.{OneStep, OpenCalls}
use Rattle.rc_cached.specs.declared.readings.Readings.{Readings}
use Rattle.rc_cached.specs.declared.underlying.Underlying.{Underlying}
use Rattle.rc_cached.specs.Leaving.{LeavesChains}
use Rattle.rc_core.specs.Version.{end_position}
use Rattle.rc_cursor.specs.Snapshots.{IsHeadSeen, Knows}
use Rattle.rc_cacheread.specs.Did.{IsKnownFor, ReaderDid}
use Rattle.rc_cacheread.specs.Spots.{stand}
use Rattle.rc_cached.specs.Streams.{IsOfCached, OfCache, read_below}
use Rattle.rc_paging.specs.declared.memtables.MemtableStream.{MemtableStream}
use Rattle.rc_paging.specs.declared.optional.Optional.{Optional}
use Rattle.rc_paging.specs.Memtables.{DidAsOne}
use Rattle.rc_paging.specs.Optional.{DidIfAny, WithBoth}
use Rattle.rc_paging.specs.calls.Layers.{IsCacheLayerOf, IsMemtableLayerOf, OfLayers, cached_in}
use Rattle.rc_paging.specs.calls.Keeping.{KeptCache, KeptLayers, Three}
use Rattle.rc_cached.specs.calls.Parts.{of_its_filler, of_snapshot, of_underlying}
use Rattle.rc_paging.specs.calls.Standing.{OfMemtables}
use Rattle.rc_paging.proofs.Kept.{merges, opens, reads}
use Rattle.rc_paging.proofs.Leaving.{leaves_same, leaves_then}

-- ---- both memtables

-- what a call of a memtable's stream did, of one that may be, and of both
abbrev pub memtable_did : Deed MemtableStream Memory Readings
memtable_did r h w c ok t g v = (g ≡ h) × (v ≡ w) × DidAsOne r t

abbrev pub memtables_did : Deed OfMemtables Memory Readings
memtables_did = merge_did (DidIfAny memtable_did) (DidIfAny memtable_did)

-- it is still that of each snapshot of which it was
abbrev pub StillOf : Option MemtableStream → Option MemtableStream → Type 0
StillOf r t = (snap : Option Snap) → IsMemtableLayerOf snap r → IsMemtableLayerOf snap t

same_one : (a b : MemtableStream) → DidAsOne a b → StillOf (Some a) (Some b)
same_one a b d None is = absurd is
same_one a b d (Some s) is = d s is

-- what a call keeps: the stream that of its snapshot, and chains and readings as they were
keeps_one : (r t : Option MemtableStream) (h g : Memory) (w v : Readings) → WithBoth (λ a b. (g ≡ h) × (v ≡ w) × DidAsOne a b) ((g ≡ h) × (v ≡ w)) r t → StillOf r t × (g ≡ h) × (v ≡ w)
keeps_one None None h g w v d = (λ snap is. is, d.0, d.1)
keeps_one None (Some b) h g w v d = absurd d
keeps_one (Some a) None h g w v d = absurd d
keeps_one (Some a) (Some b) h g w v d = (same_one a b d.2, d.0, d.1)

abbrev pub Pair : Type 0
Pair = Optional MemtableStream × Optional MemtableStream × Memory × Readings

pub record KeptPair (s t : Pair) : Type 0 where
  pub sealed : StillOf s.0.stream t.0.stream
  pub active : StillOf s.1.stream t.1.stream
  pub home : t.2 ≡ s.2
  pub store : t.3 ≡ s.3

pair_none : (s : Pair) → KeptPair s s
pair_none s = record { sealed = λ snap is. is; active = λ snap is. is; home = refl; store = refl }

pair_more : (s t u : Pair) → KeptPair s t → KeptPair t u → KeptPair s u
pair_more s t u a b = record { sealed = λ snap is. b.sealed snap (a.sealed snap is); active = λ snap is. b.active snap (a.active snap is); home = b.home ∙ a.home; store = b.store ∙ a.store }

pair_ours : (c : Call) (ok : Bool) (s t : Pair) → OurCall (DidIfAny memtable_did) c ok s t → KeptPair s t
pair_ours c ok s t d = (let k = keeps_one s.0.stream t.0.stream s.2 t.2 s.3 t.3 d.0 in record {
  sealed = k.0;
  active = subst (λ (x : Optional MemtableStream). StillOf s.1.stream x.stream) (sym d.1) (λ snap is. is);
  home = k.1;
  store = k.2;
})

pair_theirs : (c : Call) (ok : Bool) (s t : Pair) → TheirCall (DidIfAny memtable_did) c ok s t → KeptPair s t
pair_theirs c ok s t d = (let k = keeps_one s.1.stream t.1.stream s.2 t.2 s.3 t.3 d.0 in record {
  sealed = subst (λ (x : Optional MemtableStream). StillOf s.0.stream x.stream) (sym d.1) (λ snap is. is);
  active = k.0;
  home = k.1;
  store = k.2;
})

pub memtables_keep : (m : OfMemtables) (h : Memory) (w : Readings) (c : Call) (ok : Bool) (n : OfMemtables) (g : Memory) (v : Readings) → memtables_did m h w c ok n g v → KeptPair (merge_state m h w) (merge_state n g v)
memtables_keep m h w c ok n g v d = merges (DidIfAny memtable_did) (DidIfAny memtable_did) KeptPair pair_none pair_more pair_ours pair_theirs m h w c ok n g v d

-- ---- the row cache

-- what a call of a cached stream does
abbrev pub cached_did : ℕ → Deed OfCache Memory Readings
cached_did S r m w c ok t n v = ReaderDid of_snapshot of_underlying (of_its_filler S) r m w c ok t n v

-- what it leaves
pub record CallLaws (S : ℕ) : Type 0 where
  pub leaves : (r : OfCache) (m : Memory) (w : Readings) (c : Call) (ok : Bool) (t : OfCache) (n : Memory) (v : Readings) → cached_did S r m w c ok t n v → LeavesChains m n × (v.begun ≡ w.begun) × ((s : Snap) → IsOfCached s r → IsOfCached s t)
  pub handed : (r : OfCache) (m : Memory) (w : Readings) (c : Call) (ok : Bool) (t : OfCache) (n : Memory) (v : Readings) → cached_did S r m w c ok t n v → IsSome (read_below r w) → (v.missed ≡ w.missed) × IsSome (read_below t v)
  pub unread : (r : OfCache) (m : Memory) (w : Readings) (c : Call) (ok : Bool) (t : OfCache) (n : Memory) (v : Readings) → cached_did S r m w c ok t n v → read_below r w ≡ None → (n ≡ m) × (t.below ≡ r.below) × (v.list ≡ None)
  pub known : (r : OfCache) (m : Memory) (w : Readings) (c : Call) (ok : Bool) (t : OfCache) (n : Memory) (v : Readings) → cached_did S r m w c ok t n v → IsKnownFor c (Knows m r.known.snap) (IsHeadSeen m r.known.snap) (stand r.spot) r.to →
      (n ≡ m) × (v ≡ w) × (t.below ≡ r.below) × IsKnownFor c (Knows n t.known.snap) (IsHeadSeen n t.known.snap) (stand t.spot) t.to

-- what is before some end is before the end of all
pub before_end : (x y : Pos) → IsBefore x y → IsBefore x end_position
before_end x y b =
    elim (pos_cmp y end_position) as (λ r. pos_cmp y end_position ≡ r → IsBefore x end_position) [
      | Less ↦ λ e. pos_cmp_total.trans x y end_position b e
      | Equal ↦ λ e. subst (IsBefore x) (pos_cmp_same y end_position e) b
      | Greater ↦ λ e. (let none : true ≡ false = sym (ap is_gt e) ∙ last_pos-greatest y in absurd (cc))
    ] refl

-- where nothing was read, and nothing was handed in since, nothing is read
none_first : (a b : Option Stream) → option_or a b ≡ None → a ≡ None
none_first None b n = refl
none_first (Some s) b n = absurd (cc)

pub unread_still : (a b : OfCache) (w v : Readings) → read_below a w ≡ None → b.below ≡ a.below → v.list ≡ None → read_below b v ≡ None
unread_still a b w v none below list = (let first = ap (λ (u : Underlying). u.list) below ∙ none_first a.below.list w.list none in λ i. option_or (first i) (list i))

module _ (S : ℕ) (laws : CallLaws S) where
  pub cache_none : (r : Option OfCache) (m : Memory) (w : Readings) → KeptCache S r m w r m w
  cache_none r m w = record { chains = leaves_same m; of = λ snap is. is; reader = λ below d. d; missed = λ d. (d, refl); unread = λ d. (d, refl) }

  cache_same : (r t : Option OfCache) (m n : Memory) (w v : Readings) → t ≡ r → n ≡ m → v ≡ w → KeptCache S r m w t n v
  cache_same r t m n w v e home store = subst (λ x. KeptCache S r m w x n v) (sym e) (subst (λ x. KeptCache S r m w r x v) (sym home) (subst (λ x. KeptCache S r m w r m x) (sym store) (cache_none r m w)))

  pub of_some : (a b : OfCache) → ((s : Snap) → IsOfCached s a → IsOfCached s b) → (snap : Option Snap) → IsCacheLayerOf snap (Some a) → IsCacheLayerOf snap (Some b)
  of_some a b d None is = absurd is
  of_some a b d (Some s) is = d s is

  pub keeps_cache : (r t : Option OfCache) (m : Memory) (w : Readings) (c : Call) (ok : Bool) (n : Memory) (v : Readings) → WithBoth (λ a b. cached_did S a m w c ok b n v) ((n ≡ m) × (v ≡ w)) r t → KeptCache S r m w t n v
  keeps_cache None None m w c ok n v d = cache_same None None m n w v refl d.0 d.1
  keeps_cache None (Some b) m w c ok n v d = absurd d
  keeps_cache (Some a) None m w c ok n v d = absurd d
  keeps_cache (Some a) (Some b) m w c ok n v d = record {
    chains = (laws.leaves a m w c ok b n v d).0;
    of = of_some a b (laws.leaves a m w c ok b n v d).2;
    reader = λ below reads. d.stays below reads;
    missed = λ read. (let e = laws.handed a m w c ok b n v d read in (e.1, e.0));
    unread = λ none. (let e = laws.unread a m w c ok b n v d none in (unread_still a b w v none e.1 e.2, e.0));
  }

  pub cache_more : (r : Option OfCache) (m : Memory) (w : Readings) (t : Option OfCache) (n : Memory) (v : Readings) (u : Option OfCache) (o : Memory) (x : Readings) → KeptCache S r m w t n v → KeptCache S t n v u o x → KeptCache S r m w u o x
  cache_more r m w t n v u o x a b = record {
    chains = leaves_then m n o a.chains b.chains;
    of = λ snap is. b.of snap (a.of snap is);
    reader = λ below d. b.reader below (a.reader below d);
    missed = λ d. (let e = a.missed d in let f = b.missed e.0 in (f.0, f.1 ∙ e.1));
    unread = λ d. (let e = a.unread d in let f = b.unread e.0 in (f.0, f.1 ∙ e.1));
  }

  -- ---- all of them

  abbrev pub Four : Type 0
  Four = OfMemtables × Optional OfCache × Memory × Readings

  record KeptAll (s t : Four) : Type 0 where
    sealed : StillOf s.0.ours.stream.stream t.0.ours.stream.stream
    active : StillOf s.0.theirs.stream.stream t.0.theirs.stream.stream
    cache : KeptCache S s.1.stream s.2 s.3 t.1.stream t.2 t.3

  all_none : (s : Four) → KeptAll s s
  all_none s = record { sealed = λ snap is. is; active = λ snap is. is; cache = cache_none s.1.stream s.2 s.3 }

  all_more : (s t u : Four) → KeptAll s t → KeptAll t u → KeptAll s u
  all_more s t u a b = record {
    sealed = λ snap is. b.sealed snap (a.sealed snap is);
    active = λ snap is. b.active snap (a.active snap is);
    cache = cache_more s.1.stream s.2 s.3 t.1.stream t.2 t.3 u.1.stream u.2 u.3 a.cache b.cache;
  }

  all_ours : (c : Call) (ok : Bool) (s t : Four) → OurCall memtables_did c ok s t → KeptAll s t
  all_ours c ok s t d = (let k = memtables_keep s.0 s.2 s.3 c ok t.0 t.2 t.3 d.0 in record {
    sealed = k.sealed;
    active = k.active;
    cache = cache_same s.1.stream t.1.stream s.2 t.2 s.3 t.3 (λ i. (d.1 i).stream) k.home k.store;
  })

  all_theirs : (c : Call) (ok : Bool) (s t : Four) → TheirCall (DidIfAny (cached_did S)) c ok s t → KeptAll s t
  all_theirs c ok s t d = record {
    sealed = subst (λ (x : OfMemtables). StillOf s.0.ours.stream.stream x.ours.stream.stream) (sym d.1) (λ snap is. is);
    active = subst (λ (x : OfMemtables). StillOf s.0.theirs.stream.stream x.theirs.stream.stream) (sym d.1) (λ snap is. is);
    cache = keeps_cache s.1.stream t.1.stream s.2 s.3 c ok t.2 t.3 d.0;
  }

  -- what a call of the layers does
  abbrev pub layers_did : Deed OfLayers Memory Readings
  layers_did = merge_did memtables_did (DidIfAny (cached_did S))

  abbrev pub four : Three → Four
  four s = merge_state s.0 s.1 s.2

  abbrev KeptThree : Three → Three → Type 0
  KeptThree s t = KeptAll (four s) (four t)

  one : (c : Call) (ok : Bool) (s t : Three) → OneStep layers_did c ok s t → KeptThree s t
  one c ok s t d = merges memtables_did (DidIfAny (cached_did S)) KeptAll all_none all_more all_ours all_theirs s.0 s.1 s.2 c ok t.0 t.1 t.2 d

  kept_of : (s t : Three) → KeptThree s t → KeptLayers S s t
  kept_of s t k = record {
    chains = k.cache.chains;
    layers = λ held are. record { sealed = k.sealed held.written.sealed are.sealed; active = k.active held.written.active are.active; cached = k.cache.of held.cached are.cached };
    reader = k.cache.reader;
    missed = k.cache.missed;
    unread = k.cache.unread;
  }

  pub called : (y : Pos) (ok : Bool) (s t : Three) → InTurn (OneStep layers_did (OfNext y)) ok s t → KeptLayers S s t
  called y ok s t h = kept_of s t (reads layers_did KeptThree (λ s. all_none (four s)) (λ s t u. all_more (four s) (four t) (four u)) (OfNext y) (one (OfNext y)) ok s t h)

  pub opened : (x : Pos) (ok : Bool) (s t : Three) → OpenCalls layers_did x ok s t → KeptLayers S s t
  opened x ok s t h = kept_of s t (opens layers_did KeptThree (λ s. all_none (four s)) (λ s t u. all_more (four s) (four t) (four u)) x (one OfHead) (one (OfSeek x)) ok s t h)

pub kept_then : (S : ℕ) (s t u : Three) → KeptLayers S s t → KeptLayers S t u → KeptLayers S s u
kept_then S s t u a b = record {
  chains = leaves_then s.1 t.1 u.1 a.chains b.chains;
  layers = λ held are. b.layers held (a.layers held are);
  reader = λ below d. b.reader below (a.reader below d);
  missed = λ d. (let e = a.missed d in let f = b.missed e.0 in (f.0, f.1 ∙ e.1));
  unread = λ d. (let e = a.unread d in let f = b.unread e.0 in (f.0, f.1 ∙ e.1));
}

-- what is done to the cached stream alone
pub by_cache : (S : ℕ) (s t : OfLayers) (m n : Memory) (w v : Readings) → t.ours.stream ≡ s.ours.stream → KeptCache S (cached_in s) m w (cached_in t) n v → KeptLayers S (s, m, w) (t, n, v)
by_cache S s t m n w v same k = record {
  chains = k.chains;
  layers = λ held are. record {
    sealed = subst (λ (x : OfMemtables). IsMemtableLayerOf held.written.sealed x.ours.stream.stream) (sym same) are.sealed;
    active = subst (λ (x : OfMemtables). IsMemtableLayerOf held.written.active x.theirs.stream.stream) (sym same) are.active;
    cached = k.of held.cached are.cached;
  };
  reader = k.reader;
  missed = k.missed;
  unread = k.unread;
}

-- what is done after one call
pub cache_then : (S : ℕ) (r : Option OfCache) (m : Memory) (w : Readings) (t : Option OfCache) (n : Memory) (v : Readings) (u : Option OfCache) (o : Memory) (x : Readings) → KeptCache S r m w t n v → KeptCache S t n v u o x → KeptCache S r m w u o x
cache_then S r m w t n v u o x a b = record {
  chains = leaves_then m n o a.chains b.chains;
  of = λ snap is. b.of snap (a.of snap is);
  reader = λ below d. b.reader below (a.reader below d);
  missed = λ d. (let e = a.missed d in let f = b.missed e.0 in (f.0, f.1 ∙ e.1));
  unread = λ d. (let e = a.unread d in let f = b.unread e.0 in (f.0, f.1 ∙ e.1));
}

pub cache_first : (S : ℕ) (r : Option OfCache) (m : Memory) (w : Readings) → KeptCache S r m w r m w
cache_first S r m w = record { chains = leaves_same m; of = λ snap is. is; reader = λ below d. d; missed = λ d. (d, refl); unread = λ d. (d, refl) }
