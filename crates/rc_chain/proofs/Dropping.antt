-- A version that is dropped after its end dummy left the recency list; and a new chain, whose end dummy goes to the list's back.
use Rattle.std.proofs.Common.{◌≡◌, ℕ, ◌<◌, false, true, List, [], ◌∷◌, ◌++◌, Option, Some, None, length, inl, inr, refl, sym, ap, ◌∙◌, subst, map, slice_index_or, arith}
use Rattle.std.specs.Prelude.{Contains, IsSome, IsSomeAnd}
use Rattle.std.specs.Option.{option_map}
use Rattle.rc_cell.specs.declared.writes.Tomb.{Tomb}
use Rattle.rc_position.specs.declared.positions.Pos.{Pos}
use Rattle.lsa_region.specs.Region.{SameObjects}
use Rattle.rc_core.specs.AtPlace.{HasEntryAt}
use Rattle.rc_core.specs.declared.entries.ChainKind.{ChainKind}
use Rattle.rc_core.specs.declared.entries.ChainKind.TheVariants.{Cache}
use Rattle.rc_core.specs.declared.entries.Entry.{Entry}
use Rattle.rc_core.specs.Steps.{version_of}
use Rattle.rc_core.specs.Version.{EndsWithDummy, Version, IsVersion, end_position}
use Rattle.rc_memory.specs.Lists.{elem-here}
use Rattle.rc_memory.specs.Memory.{KeptChain, Member, Memory, HasChain, HasVersion, IsVersionAt, chain_at, listed_as, on_chain, on_shown, renumbered_member, shown_detached, shown_without, with_chains}
use Rattle.rc_memory.specs.Recency.{HasObject, IsRecency, MayBeListed, MustBeListed}
use Rattle.rc_memory.specs.Changes.{IsUnmoved, IsWithout, Nowhere, NothingListed, OfVersion, StandStill, member_at}
use Rattle.rc_memory.specs.laws.Listed.{one-at}
use Rattle.rc_memory.specs.laws.Places.{no_some, same_some}
use Rattle.rc_memory.specs.laws.Put.{put-at}
use Rattle.rc_memory.specs.laws.Renewed.{without-off, without-old}
use Rattle.rc_memory.specs.laws.Still.{still-then, unmoved-objects, unmoved-then}
use Rattle.rc_chain.specs.Lives.{IsEndAlone, IsChainChanged, IsChainMade, IsVersionDropped, chain_of_new, flag_of_new, with_end_listed}
use Rattle.rc_memory.specs.laws.At.{number-low}
use Rattle.rc_chain.proofs.Bare.{some-chain}
use Rattle.rc_chain.proofs.Ended.{ended}
use Rattle.rc_chain.proofs.Made.{on-twice}

-- ---- a version dropped

-- the only place of a version of its end dummy alone
pub bare-place : (v : Version) (at : Option Pos) → IsVersion v → IsEndAlone v → HasObject v at → at ≡ Some end_position
bare-place v None is bare h = absurd (none_of v.statics bare.statics h)
  where
    none_of : {X : Type 0} (o : Option X) → o ≡ None → IsSome o → ⊥
    none_of None e h = cc h
    none_of (Some x) e h = cc e
bare-place v (Some x) is bare h = ap (λ y. Some y) (one bare.alone.0 (subst (HasEntryAt x) bare.alone.1 h) (subst EndsWithDummy bare.alone.1 is.ends))
  where
    one : (e : Entry) → HasEntryAt x (e ∷ []) → EndsWithDummy (e ∷ []) → x ≡ end_position
    one e (inl at) end = sym at ∙ end.0
    one e (inr none) end = absurd none

-- an end dummy need not be listed
pub end-free : (m : Memory) (id j : ℕ) → IsSomeAnd (chain_at m id) (λ k. MustBeListed k.chain j (Some end_position)) → ⊥
end-free m id j must = let k = some-chain (chain_at m id) (λ k. MustBeListed k.chain j (Some end_position)) must in k.2.inner refl

module _ (m : Memory) (id j : ℕ) (rule : IsRecency m) (versions : (i l : ℕ) → OfVersion m i l (λ k v. IsVersion v)) (bare : IsSomeAnd (chain_at m id) (λ k. (v : Version) × IsVersionAt k.chain.versions j v × IsEndAlone v))
    (list : List Member) (without : IsWithout (member_at id j (Some end_position)) m.recency list) where
  -- nothing else of the version was listed
  pub none-listed : (at : Option Pos) → Contains list (member_at id j at) → ⊥
  none-listed at on =
      let k = some-chain (chain_at m id) (λ k. (v : Version) × IsVersionAt k.chain.versions j v × IsEndAlone v) bare in
      let may = some-chain (chain_at m id) (λ q. MayBeListed q.chain j at) (rule.members (member_at id j at) (without-old (member_at id j (Some end_position)) m.recency list without (member_at id j at) on)) in
      let same : k.0 ≡ may.0 = same_some k.0 may.0 (sym k.1 ∙ may.1) in
      let v : may.2.version ≡ k.2.0 = one-at k.0.chain.versions j may.2.version k.2.0 (subst (λ (x : KeptChain). IsVersionAt x.chain.versions j may.2.version) (sym same) may.2.number) k.2.1 in
      let place = bare-place k.2.0 at (versions id j k.0 k.2.0 k.1 k.2.1) k.2.2 (subst (λ x. HasObject x at) v may.2.object) in
      without-off (member_at id j (Some end_position)) m.recency list without rule.once (subst (λ x. Contains list (member_at id j x)) place on)

  module _ (one : Memory) (taken : one ≡ listed_as list one.region m) (objects : SameObjects m.region one.region) (still : StandStill Nowhere m one) where
    pub bare-one : IsSomeAnd (chain_at one id) (λ k. (v : Version) × IsVersionAt k.chain.versions j v × IsEndAlone v)
    bare-one = subst (λ (x : Memory). IsSomeAnd (chain_at x id) (λ k. (v : Version) × IsVersionAt k.chain.versions j v × IsEndAlone v)) (sym taken) bare

    pub nothing-one : NothingListed id j one
    nothing-one = subst (NothingListed id j) (sym taken) none-listed

    -- so it is dropped from the memory as it was
    pub dropped-whole : (two : Memory) → IsVersionDropped id j one two → IsVersionDropped id j m two
    dropped-whole two h = record {
      chains = h.chains ∙ ap (λ (x : Memory). on_chain id (on_shown (shown_without j)) x.chains) taken;
      recency = (list, without, h.recency.2 ∙ ap (map (renumbered_member id j)) (same_list h.recency.0 h.recency.1) ∙ ap (λ (x : Memory). map (renumbered_member id j) x.recency) taken);
      dropped = h.dropped ∙ ap (λ (x : Memory). x.dropped) taken;
      counts = h.counts ∙ ap (λ (x : Memory). x.counts) taken;
      objects = λ r w at ne. h.objects r w (still.objects r w (λ none. none) at) ne;
      region = unmoved-then m.region one.region two.region (unmoved-objects m.region one.region objects) h.region;
    } where
      same_list : (l : List Member) → IsWithout (member_at id j (Some end_position)) one.recency l → l ≡ one.recency
      same_list l (inl off) = off.1
      same_list l (inr on) = absurd (nothing-one (Some end_position) (subst (λ xs. Contains xs (member_at id j (Some end_position))) (sym on.2) (elem-here on.0 on.1 (member_at id j (Some end_position)))))

-- ---- a chain made

module _ (m one : Memory) (id : ℕ) (kind : ChainKind) (pt : Option Tomb) (phase : ℕ) (made : IsChainMade id kind pt phase m.recency m one) where
  at_made : chain_at one id ≡ Some (chain_of_new kind pt phase)
  at_made = ap (λ cs. slice_index_or cs id None) made.chains ∙ put-at m.chains id (Some (chain_of_new kind pt phase))

  pub made-version : HasVersion one id 0
  made-version = subst (λ (o : Option KeptChain). IsSomeAnd o (λ q. 0 < length q.chain.versions)) (sym at_made) (omega arith)

  pub made-off : IsRecency m → Contains one.recency (member_at id 0 (Some end_position)) → ⊥
  made-off rule on = let may = some-chain (chain_at m id) (λ q. MayBeListed q.chain 0 (Some end_position)) (rule.members (member_at id 0 (Some end_position)) (subst (λ l. Contains l (member_at id 0 (Some end_position))) made.recency on)) in
      no_some may.0 (sym made.vacant ∙ may.1)

  pub made-may : kind ≡ Cache → IsSomeAnd (chain_at one id) (λ q. MayBeListed q.chain 0 (Some end_position))
  made-may cached = subst (λ (o : Option KeptChain). IsSomeAnd o (λ q. MayBeListed q.chain 0 (Some end_position))) (sym at_made) (record {
    cached = cached;
    version = version_of (flag_of_new kind) pt phase;
    number = record { older = []; newer = []; split = refl; number = refl };
    object = inl refl;
    settled = λ under. absurd (let clash : false ≡ true = under.0 in cc);
  })

  pub made-whole : kind ≡ Cache → (two : Memory) → two ≡ listed_as (one.recency ++ (member_at id 0 (Some end_position) ∷ [])) two.region one → SameObjects one.region two.region → StandStill Nowhere one two → IsChainMade id kind pt phase (with_end_listed kind id 0 m.recency) m two
  made-whole cached two listed objects still = record {
    vacant = made.vacant;
    told = made.told;
    chains = ap (λ (x : Memory). x.chains) listed ∙ made.chains;
    recency = ap (λ (x : Memory). x.recency) listed ∙ ap (λ l. l ++ (member_at id 0 (Some end_position) ∷ [])) made.recency ∙ ap (λ k. with_end_listed k id 0 m.recency) (sym cached);
    dropped = ap (λ (x : Memory). x.dropped) listed ∙ made.dropped;
    counts = ap (λ (x : Memory). x.counts) listed ∙ made.counts;
    still = still-then Nowhere m one two made.still still;
    region = unmoved-then m.region one.region two.region made.region (unmoved-objects one.region two.region objects);
  }

pub bare-has : (m : Memory) (id j : ℕ) → IsSomeAnd (chain_at m id) (λ k. (v : Version) × IsVersionAt k.chain.versions j v × IsEndAlone v) → HasVersion m id j
bare-has m id j h = of (chain_at m id) h
  where
    of : (o : Option KeptChain) → IsSomeAnd o (λ k. (v : Version) × IsVersionAt k.chain.versions j v × IsEndAlone v) → IsSomeAnd o (λ k. j < length k.chain.versions)
    of None h = absurd h
    of (Some k) h = number-low k.chain.versions j h.0 h.1

-- ---- a chain no longer found

module _ (m one : Memory) (id : ℕ) (k : KeptChain) (e : chain_at m id ≡ Some k) (list : List Member) (changed : IsChainChanged id ended list m one) where
  at_ended : chain_at one id ≡ Some (ended k)
  at_ended = ap (λ cs. slice_index_or cs id None) changed.chains ∙ put-at m.chains id (option_map ended (slice_index_or m.chains id None)) ∙ ap (option_map ended) e

  pub detached-there : HasChain one id
  detached-there = subst IsSome (sym at_ended) refl

  pub detached-settled : (q : KeptChain) → chain_at one id ≡ Some q → q.chain.updating ≡ false
  detached-settled q e' = ap (λ (x : KeptChain). x.chain.updating) (same_some q (ended k) (sym e' ∙ at_ended))

  pub detached-whole : (two : Memory) → two ≡ with_chains (on_chain id (on_shown shown_detached) one.chains) one → IsChainChanged id (on_shown shown_detached) list m two
  detached-whole two is = record {
    chains = ap (λ (x : Memory). x.chains) is ∙ ap (on_chain id (on_shown shown_detached)) changed.chains ∙ on-twice m.chains id ended (on_shown shown_detached);
    recency = ap (λ (x : Memory). x.recency) is ∙ changed.recency;
    dropped = ap (λ (x : Memory). x.dropped) is ∙ changed.dropped;
    counts = ap (λ (x : Memory). x.counts) is ∙ changed.counts;
    still = still-then Nowhere m one two changed.still (subst (StandStill Nowhere one) (sym is) (record { versions = λ i l n is'. is'; objects = λ r w off at. at }));
    region = subst (λ v. IsUnmoved m.region v) (sym (ap (λ (x : Memory). x.region) is)) changed.region;
  }

-- ---- what is listed of a version

module _ (m : Memory) (id j : ℕ) (rule : IsRecency m) (versions : (i l : ℕ) → OfVersion m i l (λ k v. IsVersion v)) where
  -- an object beside the end dummy is listed, where no update stands in a cache chain
  pub more-listed : (k : KeptChain) (v : Version) (at : Option Pos) → chain_at m id ≡ Some k → IsVersionAt k.chain.versions j v → k.chain.kind ≡ Cache → k.chain.updating ≡ false → HasObject v at → (at ≡ Some end_position → ⊥) → Contains m.recency (member_at id j at)
  more-listed k v at e number cached settled has inner = rule.complete (member_at id j at) (subst (λ (o : Option KeptChain). IsSomeAnd o (λ q. MustBeListed q.chain j at)) (sym e) (record {
    cached = cached;
    version = v;
    number = number;
    object = has;
    inner = inner;
    passed = λ under last. absurd (let clash : false ≡ true = sym settled ∙ under.0 in cc);
  }))

  -- of a version of its end dummy alone that is not listed nothing is
  pub none-of-bare : OfVersion m id j (λ k v. IsEndAlone v) → (Contains m.recency (member_at id j (Some end_position)) → ⊥) → NothingListed id j m
  none-of-bare bare off at on =
      let may = some-chain (chain_at m id) (λ q. MayBeListed q.chain j at) (rule.members (member_at id j at) on) in
      off (subst (λ x. Contains m.recency (member_at id j x)) (bare-place may.2.version at (versions id j may.0 may.2.version may.1 may.2.number) (bare may.0 may.2.version may.1 may.2.number) may.2.object) on)

pub cached-has : (m : Memory) (id j : ℕ) → IsSomeAnd (chain_at m id) (λ k. (k.chain.kind ≡ Cache) × (k.chain.updating ≡ false) × (j < length k.chain.versions)) → HasVersion m id j
cached-has m id j h = of (chain_at m id) h
  where
    of : (o : Option KeptChain) → IsSomeAnd o (λ k. (k.chain.kind ≡ Cache) × (k.chain.updating ≡ false) × (j < length k.chain.versions)) → IsSomeAnd o (λ k. j < length k.chain.versions)
    of None h = absurd h
    of (Some k) h = h.2
