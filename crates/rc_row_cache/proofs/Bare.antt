-- What the chains of the cache take where nothing may be evicted: of each version its head and its end dummy.
use Rattle.std.proofs.Common.{inl, inr, ◌≡◌, ◌≢◌, ◌≤◌, ◌+◌, ◌*◌, ℕ, false, true, List, [], ◌∷◌, Option, Some, None, IsSome, length, cond, refl, sym, ap, ◌∙◌, subst, sum_by, arith}
use Rattle.std.specs.Prelude.{Contains}
use Rattle.std.proofs.lemmas.List.Sums.{sum_by-cons}
use Rattle.rc_cell.specs.declared.rows.Row.{Row}
use Rattle.rc_position.specs.declared.positions.Pos.{Pos}
use Rattle.rc_core.specs.declared.entries.ChainKind.TheVariants.{Cache}
use Rattle.rc_core.specs.declared.entries.Entry.{Entry}
use Rattle.rc_core.specs.AtPlace.{HasEntryAt}
use Rattle.rc_core.specs.Version.{Ascend, EndsWithDummy, IsVersion, Version, end_position}
use Rattle.rc_core.specs.laws.Placed.{ahead_of, not_end}
use Rattle.rc_partition.specs.Versions.{bytes_at, entries_bytes, statics_bytes, version_bytes}
use Rattle.rc_partition.specs.laws.Lists.{elem-none}
use Rattle.rc_registry.specs.Registry.{AreFree}
use Rattle.rc_memory.specs.Changes.{OfVersion, member_at}
use Rattle.rc_memory.specs.Kept.{IsSoundChain, present}
use Rattle.rc_memory.specs.Memory.{IsVersionAt, KeptChain, Memory, chain_at}
use Rattle.rc_memory.specs.Recency.{HasObject, IsRecency, MustBeListed}
use Rattle.rc_memory.specs.Room.{chain_bytes}
use Rattle.rc_memory.specs.laws.Listing.{pos_decided}
use Rattle.rc_memory.specs.laws.Recent.{there_at}
use Rattle.rc_filler.specs.Lives.{is_cache}
use Rattle.rc_row_cache.specs.Footprint.{AreInUse, HaveOneVersion, NoUpdateStands, cache_bytes, cache_snapshots, is_chain_of, snapshots_of}
use Rattle.rc_row_cache.proofs.Weighed.{bytes-are, kind-or, weigh, weigh-cache, weigh-no-cache}
use Rattle.rc_row_cache.proofs.Sums.{added_by, sum-filter, sum-least, sum-times, through}

-- ---- a version of its end dummy alone

no-statics : (o : Option Row) → (IsSome o → ⊥) → statics_bytes o ≡ 0
no-statics None h = refl
no-statics (Some row) h = absurd (h refl)

end-has : (es : List Entry) → EndsWithDummy es → HasEntryAt end_position es
end-has [] h = absurd h
end-has (e ∷ []) h = inl h.0
end-has (e ∷ f ∷ es) h = inr (end-has (f ∷ es) h)

alone-bytes : (es : List Entry) → Ascend es → EndsWithDummy es → ((x : Pos) → HasEntryAt x es → x ≡ end_position) → entries_bytes es ≡ 88
alone-bytes [] a h only = absurd h
alone-bytes (e ∷ []) a h only = let is : bytes_at e.position e.row ≡ bytes_at end_position None = λ i. bytes_at (h.0 i) (h.1 i) in omega (arith, is)
alone-bytes (e ∷ f ∷ es) a h only = absurd (not_end e.position (ahead_of end_position e (f ∷ es) a (end-has (f ∷ es) h)) (only e.position (inl refl)))

bare-sum : (statics entries : ℕ) → statics ≡ 0 → entries ≡ 88 → 64 + (statics + entries) ≡ 152
bare-sum statics entries a b = omega (arith, a, b)

only-one : (vs : List Version) → length vs ≡ 1 → (v : Version) × (vs ≡ v ∷ [])
only-one [] e = absurd (omega (arith, e))
only-one (v ∷ []) e = (v, refl)
only-one (v ∷ w ∷ vs) e = absurd (omega (arith, e))

-- ---- pins

some-pin : (ps : List (Option ℕ)) → (AreFree ps → ⊥) → 1 ≤ length (present ps)
some-pin [] h = absurd (h (λ j on. on))
some-pin (Some p ∷ ps) h = omega arith
some-pin (None ∷ ps) h = some-pin ps (λ free. h (λ j on. elim on [ inl e ↦ cc e | inr later ↦ free j later ]))

-- ---- where each chain is sound

-- no update stands in a chain of one version
pub one-settled : (m : Memory) → ((id : ℕ) (k : KeptChain) → chain_at m id ≡ Some k → IsSoundChain k.chain) → HaveOneVersion m → NoUpdateStands m
one-settled m sound one id k there cached = by k.chain.updating refl
  where
    by : (b : _) → k.chain.updating ≡ b → b ≡ false
    by false e = refl
    by true e = let two = (sound id k there).below e in let single = one id k there cached in absurd (omega (arith, two, single))

-- ---- where nothing is listed

module _ (m : Memory) (rule : IsRecency m) (versions : (i j : ℕ) → OfVersion m i j (λ k v. IsVersion v)) (settled : NoUpdateStands m) (none : m.recency ≡ []) where
  module _ (id : ℕ) (k : KeptChain) (there : chain_at m id ≡ Some k) (cached : k.chain.kind ≡ Cache) where
    unlisted : (j : ℕ) (at : Option Pos) → Contains m.recency (member_at id j at) → ⊥
    unlisted j at on = elem-none (member_at id j at) (subst (λ l. Contains l (member_at id j at)) none on)

    -- an object that is not an end dummy would be listed
    never : (j : ℕ) (v : Version) (at : Option Pos) → IsVersionAt k.chain.versions j v → HasObject v at → at ≢ Some end_position → ⊥
    never j v at number object inner = unlisted j at (rule.complete (member_at id j at) (there_at (λ q. MustBeListed q.chain j at) (chain_at m id) k (record {
      cached = cached;
      version = v;
      number = number;
      object = object;
      inner = inner;
      passed = λ u. absurd (let clash = sym (settled id k there cached) ∙ u.0 in cc clash);
    }) there))

    bare-one : (v : Version) → IsVersionAt k.chain.versions 0 v → version_bytes v ≡ 152
    bare-one v number =
        let is = versions id 0 k v there number in
        bare-sum (statics_bytes v.statics) (entries_bytes v.entries)
        (no-statics v.statics (λ row. never 0 v None number row (λ e. cc e)))
        (alone-bytes v.entries is.ascend is.ends (λ x has. elim (pos_decided x end_position) [ inl e ↦ e | inr ne ↦ absurd (never 0 v (Some x) number has (λ e. ne (cc e))) ]))

    bare-chain : length k.chain.versions ≡ 1 → chain_bytes k ≡ 152
    bare-chain one =
        let v = only-one k.chain.versions one in
        let is : chain_bytes k ≡ sum_by version_bytes (v.0 ∷ []) = ap (sum_by version_bytes) v.1 in
        let bytes = bare-one v.0 (record { older = []; newer = []; split = v.1; number = refl }) in
        omega (arith, is, bytes, sum_by-cons version_bytes v.0 [])

    some-snapshot : AreInUse m → 1 ≤ snapshots_of k
    some-snapshot used = some-pin k.chain.pins (λ free. used id k there (record { cached = cached; settled = settled id k there cached; unpinned = free; unlisted = unlisted }))

  -- a snapshot of the cache
  abbrev pinning : KeptChain → ℕ
  pinning = through (is_chain_of Cache) snapshots_of

  module _ (one : HaveOneVersion m) (used : AreInUse m) where
    few-at : (id : ℕ) (o : Option KeptChain) → chain_at m id ≡ o → added_by (weigh Cache) o ≤ added_by (λ k. 152 * pinning k) o
    few-at id None there = omega arith
    few-at id (Some k) there = elim (kind-or k.chain.kind) [
      | inl memtable ↦ (let nothing = weigh-no-cache k memtable in omega (arith, nothing))
      | inr cached ↦ (
          let takes = weigh-cache k cached in
          let bytes = bare-chain id k there cached (one id k there cached) in
          let counts : pinning k ≡ snapshots_of k = ap (λ kind. cond (is_cache kind) (snapshots_of k) 0) cached in
          let some = some-snapshot id k there cached used in
          omega (arith, takes, bytes, counts, some))
    ]

    pub little-left : cache_bytes m ≤ 152 * cache_snapshots m
    little-left = omega (
      arith,
      bytes-are Cache m,
      sum-least (weigh Cache) (λ k. 152 * pinning k) m.chains m.chains (λ id. few-at id (chain_at m id) refl),
      sum-times (λ k. 152 * pinning k) pinning (λ k. refl) (present m.chains),
      sum-filter (is_chain_of Cache) snapshots_of (present m.chains),
    )
