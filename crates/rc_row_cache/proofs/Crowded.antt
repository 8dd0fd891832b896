-- What is evicted for a write is evicted in a crowded region.
use Rattle.std.proofs.Common.{inl, inr, ◌≡◌, ◌+◌, ◌-◌, ◌*◌, ◌/◌, ◌<◌, ◌≤◌, ℕ, List, [], Option, Some, None, cond, length, sum_by, refl, sym, ap, ◌∙◌, subst, arith}
use Rattle.std.specs.Prelude.{not}
use Rattle.lsa_region.specs.Region.{live_bytes}
use Rattle.rc_core.specs.declared.entries.ChainKind.{ChainKind}
use Rattle.rc_core.specs.declared.entries.ChainKind.TheVariants.{Cache, Memtable}
use Rattle.rc_memory.specs.declared.counts.Counts.{Counts}
use Rattle.rc_memory.specs.Kept.{present}
use Rattle.rc_memory.specs.Memory.{KeptChain, Member, Memory, chain_at}
use Rattle.rc_memory.specs.Recency.{IsRecency}
use Rattle.rc_memory.specs.laws.Places.{same_some}
use Rattle.rc_filler.specs.Crowding.{IsCrowded, version_count, versions_of}
use Rattle.rc_filler.specs.Evictions.{AreEvicted, IsRoomMade, evicted_of, evictions_counted}
use Rattle.rc_filler.specs.Lives.{is_cache}
use Rattle.rc_row_cache.specs.Footprint.{IsCrowdedForWrite, LosesBeforeWrite, cache_versions, is_chain_of}
use Rattle.rc_row_cache.specs.Leaving.{AreCachesSame}
use Rattle.rc_row_cache.proofs.Numbered.{among-or, mapped, none-is-none, there-or-not}
use Rattle.rc_row_cache.proofs.Spared.{SparingLaws}
use Rattle.rc_row_cache.proofs.Sums.{added_by, sum-both, sum-filter, sum-least, through}
use Rattle.rc_row_cache.proofs.Weighed.{kind-or}

-- ---- how many versions there are, by kinds

-- how many a chain adds to those of a kind
abbrev counted : ChainKind → KeptChain → ℕ
counted kind = through (is_chain_of kind) version_count

-- how many the chains of memtables have
abbrev memtable_versions : Memory → ℕ
memtable_versions m = sum_by (counted Memtable) (present m.chains)

other-none : (k : KeptChain) → k.chain.kind ≡ Cache → counted Memtable k ≡ 0
other-none k e = ap (λ kind. cond (not (is_cache kind)) (version_count k) 0) e

counted-memtable : (k : KeptChain) → k.chain.kind ≡ Memtable → counted Memtable k ≡ version_count k
counted-memtable k e = ap (λ kind. cond (not (is_cache kind)) (version_count k) 0) e

counted-cache : (k : KeptChain) → k.chain.kind ≡ Cache → counted Cache k ≡ version_count k
counted-cache k e = ap (λ kind. cond (is_cache kind) (version_count k) 0) e

no-cache : (k : KeptChain) → k.chain.kind ≡ Memtable → counted Cache k ≡ 0
no-cache k e = ap (λ kind. cond (is_cache kind) (version_count k) 0) e

both-sum : (a b c : ℕ) → a ≡ c → b ≡ 0 → a + b ≡ c
both-sum a b c p q = omega (arith, p, q)

sum-both-second : (a b c : ℕ) → a ≡ 0 → b ≡ c → a + b ≡ c
sum-both-second a b c p q = omega (arith, p, q)

counted-both : (k : KeptChain) → counted Memtable k + counted Cache k ≡ version_count k
counted-both k = elim (kind-or k.chain.kind) [
  | inl m ↦ both-sum (counted Memtable k) (counted Cache k) (version_count k) (counted-memtable k m) (no-cache k m)
  | inr c ↦ sum-both-second (counted Memtable k) (counted Cache k) (version_count k) (other-none k c) (counted-cache k c)
]

versions-of-both : (m : Memory) → versions_of m ≡ memtable_versions m + cache_versions m
versions-of-both m = sum-both version_count (counted Memtable) (counted Cache) counted-both (present m.chains) ∙ ap (λ n. memtable_versions m + n) (sym (sum-filter (is_chain_of Cache) version_count (present m.chains)))

same-both : (a b : ℕ) → a ≤ b → b ≤ a → a ≡ b
same-both a b p q = omega (arith, p, q)

no-more : (a b : ℕ) → a ≡ b → a ≤ b
no-more a b e = omega (arith, e)

-- what adds as much at each number has the same sum
sum-same : (f : KeptChain → ℕ) (old new : Memory) → ((id : ℕ) → added_by f (chain_at new id) ≡ added_by f (chain_at old id)) → sum_by f (present new.chains) ≡ sum_by f (present old.chains)
sum-same f old new h = same-both (sum_by f (present new.chains)) (sum_by f (present old.chains)) (sum-least f f new.chains old.chains (λ id. no-more (added_by f (chain_at new id)) (added_by f (chain_at old id)) (h id)))
    (sum-least f f old.chains new.chains (λ id. no-more (added_by f (chain_at old id)) (added_by f (chain_at new id)) (sym (h id))))

-- ---- evictions take none of memtables

nothing-added : (o : Option KeptChain) → ((k : KeptChain) → o ≡ Some k → k.chain.kind ≡ Cache) → added_by (counted Memtable) o ≡ 0
nothing-added None h = refl
nothing-added (Some k) h = other-none k (h k refl)

module _ (laws : SparingLaws) (went : List Member) (gone : List ℕ) (old new : Memory) (a : AreEvicted went gone old new) (rule : IsRecency old) where
  still-cached : (id : ℕ) (k n : KeptChain) → chain_at old id ≡ Some k → k.chain.kind ≡ Cache → chain_at new id ≡ Some n → n.chain.kind ≡ Cache
  still-cached id k n there cached e = elim (among-or gone id) [
    | inl on ↦ absurd (none-is-none n (sym (a.absent id on) ∙ e))
    | inr off ↦ (
        let was = mapped (evicted_of id went) (chain_at old id) n (sym (a.chains id off) ∙ e) in
        ap (λ (q : KeptChain). q.chain.kind) (sym was.2) ∙ laws.kind id went was.0 ∙ ap (λ (q : KeptChain). q.chain.kind) (same_some was.0 k (sym was.1 ∙ there)) ∙ cached)
  ]

  spared-at : (id : ℕ) → added_by (counted Memtable) (chain_at new id) ≡ added_by (counted Memtable) (chain_at old id)
  spared-at id = there-or-not (chain_at old id)
      (λ none. ap (added_by (counted Memtable)) (laws.absent went gone old new id a none ∙ sym none))
      (λ k there. elim (kind-or k.chain.kind) [
        | inl memtable ↦ ap (added_by (counted Memtable)) (laws.memtable went gone old new id k rule a there memtable ∙ sym there)
        | inr cached ↦ nothing-added (chain_at new id) (λ n e. still-cached id k n there cached e) ∙ sym (ap (added_by (counted Memtable)) there ∙ other-none k cached)
      ])

  evicted-versions : memtable_versions new ≡ memtable_versions old
  evicted-versions = sum-same (counted Memtable) old new spared-at

-- ---- the cache has as many where its chains are as they were

not-both : (kind : ChainKind) → kind ≡ Memtable → kind ≡ Cache → ⊥
not-both kind m c = (let clash : Memtable ≡ Cache = sym m ∙ c in cc)

cache-none : (o : Option KeptChain) → ((k : KeptChain) → o ≡ Some k → k.chain.kind ≡ Cache → ⊥) → added_by (counted Cache) o ≡ 0
cache-none None off = refl
cache-none (Some k) off = elim (kind-or k.chain.kind) [ inl m ↦ no-cache k m | inr c ↦ absurd (off k refl c) ]

module _ (old new : Memory) (same : AreCachesSame old new) where
  cache-at : (id : ℕ) (o q : Option KeptChain) → chain_at old id ≡ o → chain_at new id ≡ q → added_by (counted Cache) q ≡ added_by (counted Cache) o
  cache-at id None q was now = cache-none q (λ n e c. none-is-none n (sym was ∙ same.none id n c (now ∙ e)))
  cache-at id (Some k) q was now = elim (kind-or k.chain.kind) [
    | inl m ↦ cache-none q (λ n e c. not-both k.chain.kind m (ap (λ (x : KeptChain). x.chain.kind) (same_some k n (sym was ∙ same.none id n c (now ∙ e))) ∙ c)) ∙ sym (no-cache k m)
    | inr c ↦ ap (added_by (counted Cache)) (sym now ∙ same.stays id k c was)
  ]

  versions-same : cache_versions new ≡ cache_versions old
  versions-same = sum-filter (is_chain_of Cache) version_count (present new.chains) ∙ sum-same (counted Cache) old new (λ id. cache-at id (chain_at old id) (chain_at new id) refl refl) ∙ sym (sum-filter (is_chain_of Cache) version_count (present old.chains))

-- ---- room for a write

-- an object was evicted last, and one may have become smaller
two-eighths : (S : ℕ) → S / 8 + S / 8 ≤ S / 4
two-eighths S = omega arith

crowded_sum : (least between live eighth quarter before now was is m0 h i rise : ℕ) → least + 152 * is + h < between + eighth + 152 * (was + 0) + i → h ≡ i → between ≤ live + eighth → eighth + eighth ≤ quarter → was ≡ m0 + before → is ≡ m0 + now → now ≤ before → least < live + quarter + 152 * (before - now) + rise
crowded_sum least between live eighth quarter before now was is m0 h i rise c p q o r s t = omega (arith, c, p, q, o, r, s, t)

fewer : (before now was is m0 : ℕ) → is ≤ was + 0 → was ≡ m0 + before → is ≡ m0 + now → now ≤ before
fewer before now was is m0 p q r = omega (arith, p, q, r)

none-counted : (went : List Member) (old mid : Counts) → mid ≡ evictions_counted went old → went ≡ [] → mid ≡ old
none-counted went old mid counts none = counts ∙ ap (λ ws. evictions_counted ws old) none

module _ (laws : SparingLaws) (S : ℕ) (old mid new : Memory) (room : IsRoomMade S old mid) (rule : IsRecency old) (shrinks : live_bytes mid.region ≤ live_bytes new.region + S / 8) (same : AreCachesSame mid new) (budget : length new.region.usages ≡ length mid.region.usages) (counts : new.counts ≡ mid.counts) where
  crowded : IsCrowded S (S / 8) 0 old mid → IsCrowdedForWrite S old new
  crowded c =
      let memtables = evicted-versions laws room.went room.gone old mid room.evicted rule in
      let caches = sym (versions-same mid new same) in
      let is = versions-of-both mid ∙ (λ i. memtables i + caches i) in
      let was = versions-of-both old in
      subst (λ n. 3 * S / 4 * (n - 2) < live_bytes new.region + S / 4 + 152 * (cache_versions old - cache_versions new) + (new.counts.shrunk - old.counts.shrunk)) (sym budget)
      (crowded_sum (3 * S / 4 * (length mid.region.usages - 2)) (live_bytes mid.region) (live_bytes new.region) (S / 8) (S / 4) (cache_versions old) (cache_versions new) (versions_of old) (versions_of mid) (memtable_versions old) old.counts.shrunk mid.counts.shrunk (new.counts.shrunk - old.counts.shrunk) c (sym room.shrunk)
      shrinks (two-eighths S) was is (fewer (cache_versions old) (cache_versions new) (versions_of old) (versions_of mid) (memtable_versions old) room.loses.versions was is))

  pub write-loses : LosesBeforeWrite S old new
  write-loses = elim room.crowded [
    | inl none ↦ (let is = counts ∙ none-counted room.went old.counts mid.counts room.evicted.counts none in inl (ap (λ (c : Counts). c.evicted) is, ap (λ (c : Counts). c.skipped) is))
    | inr c ↦ inr (crowded c)
  ]
