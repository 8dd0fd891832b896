-- Chains that are to be dropped: how they are told, and how they go, version by version.
use Rattle.std.proofs.Common.{◌≡◌, ℕ, zero, suc, ◌+◌, ◌<◌, ◌↔◌, Bool, true, false, List, [], ◌∷◌, ◌++◌, Option, Some, None, IsSome, IsTrue, length, inl, inr, refl, sym, ap, ◌∙◌, subst, map, slice_index_or, arith}
use Rattle.std.specs.Prelude.{Contains, IfSome, IsSomeAnd, ◌⊎◌}
use Rattle.std.specs.Option.{option_map}
use Rattle.rc_position.specs.declared.positions.Pos.{Pos}
use Rattle.lsa_store.specs.declared.place.Ref.{Ref}
use Rattle.lsa_region.specs.Region.{View}
use Rattle.lsa_list.specs.declared.recency.List.{List as Slots}
use Rattle.rc_core.specs.Chains.{IsPinned}
use Rattle.rc_core.specs.Steps.{all_but, number_after_removal}
use Rattle.rc_core.specs.Version.{Version, IsVersion, end_position}
use Rattle.rc_cell.specs.declared.rows.Row.{Row}
use Rattle.rc_registry.specs.declared.uses.Use.{Use}
use Rattle.rc_registry.specs.Registry.{Registry, AreFree, put_at_number, use_at}
use Rattle.rc_memory.specs.declared.counts.Counts.{Counts}
use Rattle.rc_memory.specs.Memory.{KeptChain, Member, Memory, IsMemberObject, IsVersionAt, chain_at, on_chain, on_shown, renumbered_member, shown_without}
use Rattle.rc_memory.specs.Recency.{IsRecency, MayBeListed}
use Rattle.rc_memory.specs.Kept.{HoldMemory, IsSoundChain}
use Rattle.rc_memory.specs.Changes.{CanDrop, IsUnmoved, NothingListed, OfVersion, member_at}
use Rattle.rc_memory.specs.laws.At.{number-low}
use Rattle.rc_memory.specs.laws.Dropped.{renumbered-other}
use Rattle.rc_memory.specs.laws.Places.{same_some}
use Rattle.rc_memory.specs.laws.Put.{put-at, put-same}
use Rattle.rc_memory.specs.laws.Still.{unmoved-itself, unmoved-then}
use Rattle.rc_memory.specs.laws.Versions.{all-but-is}
use Rattle.rc_memory.specs.Lists.{elem-first, elem-here, elem-later}
use Rattle.rc_chain.specs.Lives.{IsEndAlone, IsChainDropped, IsIdle, IsVersionDropped}
use Rattle.rc_chain.proofs.Bare.{some-chain}
use Rattle.rc_chain.proofs.Dropping.{more-listed}
use Rattle.rc_chain.proofs.Ended.{last-inside, last-there, on-at, sound-of}
use Rattle.rc_chain.proofs.Ending.{bare-is}
use Rattle.rc_chain.proofs.Made.{put-put}
use Rattle.rc_chain.proofs.Reading.{chain-kept}

-- whether nobody pins a version of a chain is told of its use
pub free-told : (slots : Slots) (v : View) (registry : Registry) (counts : Counts) (m : Memory) (h : HoldMemory slots v registry counts m) (id : ℕ) (k : KeptChain) (b : Bool) → chain_at m id ≡ Some k → IfSome (use_at registry.uses id) (λ u. IsTrue b ↔ AreFree u.pins) → IsTrue b ↔ AreFree k.chain.pins
free-told slots v registry counts m h id k b e told =
    let a = chain-kept slots v registry counts m h id k e in
    subst (λ (x : KeptChain). IsTrue b ↔ AreFree x.chain.pins) (sym a.same) (subst (λ (o : Option Use). IfSome o (λ u. IsTrue b ↔ AreFree u.pins)) a.at told)

-- what is below one more is below, or is it
pub below-or : (j n : ℕ) → j < n + 1 → (j < n) ⊎ (j ≡ n)
below-or zero zero h = inr refl
below-or zero (suc n) h = inl (omega arith)
below-or (suc j) zero h = absurd (omega (arith, h))
below-or (suc j) (suc n) h = elim (below-or j n (omega (arith, h))) [ inl low ↦ inl (omega (arith, low)) | inr same ↦ inr (ap suc same) ]

-- nothing is listed of a chain of which nothing is listed in its versions
pub all-unlisted : (m : Memory) (id : ℕ) (k : KeptChain) → chain_at m id ≡ Some k → IsRecency m → ((j : ℕ) → j < length k.chain.versions → NothingListed id j m) → (j : ℕ) (at : Option Pos) → Contains m.recency (member_at id j at) → ⊥
all-unlisted m id k e rule none j at on =
    let may = some-chain (chain_at m id) (λ q. MayBeListed q.chain j at) (rule.members (member_at id j at) on) in
    none j (number-low k.chain.versions j may.2.version (subst (λ (x : KeptChain). IsVersionAt x.chain.versions j may.2.version) (same_some may.0 k (sym may.1 ∙ e)) may.2.number)) at on

-- ---- a chain of which nothing is listed goes

pub record IsDroppingIdle (id : ℕ) (old now : Memory) : Type 0 where
  pub chain : KeptChain
  pub there : chain_at now id ≡ Some chain
  pub settled : chain.chain.updating ≡ false
  pub free : AreFree chain.chain.pins
  pub some : 0 < length chain.chain.versions
  pub bare : (j : ℕ) (v : Version) → IsVersionAt chain.chain.versions j v → IsEndAlone v
  pub unlisted : (j : ℕ) (at : Option Pos) → Contains now.recency (member_at id j at) → ⊥
  pub chains : now.chains ≡ put_at_number id (Some chain) old.chains
  pub recency : now.recency ≡ old.recency
  pub dropped : now.dropped ≡ old.dropped
  pub counts : now.counts ≡ old.counts
  pub objects : (r : Ref) (w : Member) → IsMemberObject old r w → (w.chain ≡ id → ⊥) → IsMemberObject now r w
  pub region : IsUnmoved old.region now.region

idle-bare : (m : Memory) (id : ℕ) (k : KeptChain) → chain_at m id ≡ Some k → IsIdle m id k.chain → IsRecency m → ((i l : ℕ) → OfVersion m i l (λ k v. IsVersion v)) → (j : ℕ) (v : Version) → IsVersionAt k.chain.versions j v → IsEndAlone v
idle-bare m id k e idle rule versions j v at =
    bare-is v (versions id j k v e at).ends (no-row v.statics (λ row has. idle.unlisted j None (more-listed m id j rule versions k v None e at idle.cached idle.settled (subst IsSome (sym has) refl) (λ same. cc same))))
    (λ place last. idle.unlisted j place (more-listed m id j rule versions k v place e at idle.cached idle.settled (last-there v place last) (last-inside v place (versions id j k v e at) last)))
  where
    no-row : (o : Option Row) → ((row : Row) → o ≡ Some row → ⊥) → o ≡ None
    no-row None h = refl
    no-row (Some row) h = absurd (h row refl)

pub idle-start : (m : Memory) (id : ℕ) → IsSomeAnd (chain_at m id) (λ k. IsIdle m id k.chain) → IsRecency m → ((i : ℕ) → IfSome (chain_at m i) (λ q. IsSoundChain q.chain)) → ((i l : ℕ) → OfVersion m i l (λ k v. IsVersion v)) → IsDroppingIdle id m m
idle-start m id some rule sound versions = let k = some-chain (chain_at m id) (λ k. IsIdle m id k.chain) some in record {
  chain = k.0;
  there = k.1;
  settled = k.2.settled;
  free = k.2.unpinned;
  some = (sound-of m id k.0 k.1 sound).some;
  bare = idle-bare m id k.0 k.1 k.2 rule versions;
  unlisted = k.2.unlisted;
  chains = sym (put-same m.chains id k.0 k.1);
  recency = refl;
  dropped = refl;
  counts = refl;
  objects = λ r w at ne. at;
  region = unmoved-itself m.region;
}

free-renumbered : (ps : List (Option ℕ)) → AreFree ps → AreFree (map (option_map (number_after_removal 0)) ps)
free-renumbered [] free j on = absurd on
free-renumbered (None ∷ ps) free j (inl e) = cc e
free-renumbered (Some p ∷ ps) free j (inl e) = free p (inl refl)
free-renumbered (p ∷ ps) free j (inr on) = free-renumbered ps (λ i k. free i (inr k)) j on

mapped-same : (g : Member → Member) (ws : List Member) → ((w : Member) → Contains ws w → g w ≡ w) → map g ws ≡ ws
mapped-same g [] same = refl
mapped-same g (w ∷ ws) same = let one = same w (elem-first w ws) in let rest = mapped-same g ws (λ x on. same x (elem-later w x ws on)) in λ i. one i ∷ rest i

first-gone : (vs : List Version) → 0 < length vs → (v : Version) × (rest : List Version) × (vs ≡ v ∷ rest) × (all_but 0 vs ≡ rest)
first-gone [] h = absurd (omega (arith, h))
first-gone (v ∷ vs) h = (v, vs, refl, all-but-is [] v vs 0 refl)

module _ (id : ℕ) (old now : Memory) (h : IsDroppingIdle id old now) where
  first : (v : Version) × (rest : List Version) × (h.chain.chain.versions ≡ v ∷ rest) × (all_but 0 h.chain.chain.versions ≡ rest)
  first = first-gone h.chain.chain.versions h.some

  pub idle-there : IsSome (chain_at now id)
  idle-there = subst IsSome (sym h.there) refl

  pub idle-bare-first : IsSomeAnd (chain_at now id) (λ k. (v : Version) × IsVersionAt k.chain.versions 0 v × IsEndAlone v)
  idle-bare-first =
      let f = first in let at : IsVersionAt h.chain.chain.versions 0 f.0 = record { older = []; newer = f.1; split = f.2; number = refl } in
      subst (λ (o : Option KeptChain). IsSomeAnd o (λ k. (v : Version) × IsVersionAt k.chain.versions 0 v × IsEndAlone v)) (sym h.there) (f.0, at, h.bare 0 f.0 at)

  pub idle-can : 1 < length h.chain.chain.versions → (k : KeptChain) → chain_at now id ≡ Some k → CanDrop k.chain 0
  idle-can more k e = subst (λ (x : KeptChain). CanDrop x.chain 0) (same_some h.chain k (sym h.there ∙ e)) (record {
    unpinned = h.free 0;
    others = more;
    settled = λ u. absurd (let clash : false ≡ true = sym h.settled ∙ u in cc);
    below = λ u. absurd (let clash : false ≡ true = sym h.settled ∙ u in cc);
  })

  -- one version less
  module _ (new : Memory) (d : IsVersionDropped id 0 now new) (more : 1 < length h.chain.chain.versions) where
    abbrev less : KeptChain
    less = on_shown (shown_without 0) h.chain

    less_there : chain_at new id ≡ Some (on_shown (shown_without 0) h.chain)
    less_there = ap (λ cs. slice_index_or cs id None) d.chains ∙ on-at now.chains id (on_shown (shown_without 0)) h.chain h.there

    beside : (w : Member) → Contains now.recency w → w.chain ≡ id → ⊥
    beside w on e = h.unlisted w.version w.position (subst (Contains now.recency) (λ i. record { chain = e i; version = w.version; position = w.position }) on)

    kept_list : d.recency.0 ≡ now.recency
    kept_list = elim d.recency.1 [ inl off ↦ off.1 | inr on ↦ absurd (h.unlisted 0 (Some end_position) (subst (λ l. Contains l (member_at id 0 (Some end_position))) (sym on.2) (elem-here on.0 on.1 (member_at id 0 (Some end_position))))) ]

    less_list : new.recency ≡ now.recency
    less_list = d.recency.2 ∙ ap (map (renumbered_member id 0)) kept_list ∙ mapped-same (renumbered_member id 0) now.recency (λ w on. renumbered-other id 0 w (beside w on))

    pub idle-step : IsDroppingIdle id old new
    idle-step = let f = first in record {
      chain = on_shown (shown_without 0) h.chain;
      there = less_there;
      settled = h.settled;
      free = free-renumbered h.chain.chain.pins h.free;
      some = let long = ap length f.2 in subst (λ vs. 0 < length vs) (sym f.3) (omega (arith, long, more));
      bare = λ j v at. let a = subst (λ vs. IsVersionAt vs j v) f.3 at in h.bare (suc j) v (record { older = f.0 ∷ a.older; newer = a.newer; split = f.2 ∙ ap (λ l. f.0 ∷ l) a.split; number = ap suc a.number });
      unlisted = λ j at on. h.unlisted j at (subst (λ l. Contains l (member_at id j at)) less_list on);
      chains = d.chains ∙ ap (on_chain id (on_shown (shown_without 0))) h.chains
          ∙ ap (λ o. put_at_number id (option_map (on_shown (shown_without 0)) o) (put_at_number id (Some h.chain) old.chains)) (put-at old.chains id (Some h.chain)) ∙ put-put old.chains id (Some (on_shown (shown_without 0) h.chain)) (Some h.chain);
      recency = less_list ∙ h.recency;
      dropped = d.dropped ∙ h.dropped;
      counts = d.counts ∙ h.counts;
      objects = λ r w at ne. subst (IsMemberObject new r) (renumbered-other id 0 w ne) (d.objects r w (h.objects r w at ne) (λ e l. ne e));
      region = unmoved-then old.region now.region new.region h.region d.region;
    }

    pub idle-smaller : (count : Option KeptChain → ℕ) → ((k : KeptChain) → count (Some k) ≡ length k.chain.versions) → count (chain_at new id) < count (chain_at now id)
    idle-smaller count told =
        let f = first in let long = ap length f.2 in let a = ap count less_there ∙ told (on_shown (shown_without 0) h.chain) ∙ ap length f.3 in let b = ap count h.there ∙ told h.chain in omega (arith, a, b, long)

  -- the last one
  pub idle-alone : (n : ℕ) → n ≡ length h.chain.chain.versions → (1 < n → ⊥) → IsSomeAnd (chain_at now id) (λ k. (v : Version) × (k.chain.versions ≡ v ∷ []) × IsEndAlone v)
  idle-alone n is few =
      let f = first in let long = ap length f.2 in let only : f.1 ≡ [] = empty f.1 (λ more. few (omega (arith, is, long, more))) in
      let at : IsVersionAt h.chain.chain.versions 0 f.0 = record { older = []; newer = f.1; split = f.2; number = refl } in
      subst (λ (o : Option KeptChain). IsSomeAnd o (λ k. (v : Version) × (k.chain.versions ≡ v ∷ []) × IsEndAlone v)) (sym h.there) (f.0, f.2 ∙ ap (λ l. f.0 ∷ l) only, h.bare 0 f.0 at)
    where
      empty : (l : List Version) → (0 < length l → ⊥) → l ≡ []
      empty [] none = refl
      empty (v ∷ l) none = absurd (none (omega arith))

  pub idle-free : (k : KeptChain) (j : ℕ) → chain_at now id ≡ Some k → IsPinned k.chain.pins j → ⊥
  idle-free k j e on = h.free j (subst (λ (x : KeptChain). IsPinned x.chain.pins j) (same_some k h.chain (sym e ∙ h.there)) on)

  pub idle-gone : (new : Memory) → IsChainDropped id now.recency now new → IsChainDropped id old.recency old new
  idle-gone new g = record {
    chains = g.chains ∙ ap (put_at_number id None) h.chains ∙ put-put old.chains id None (Some h.chain);
    recency = g.recency ∙ h.recency;
    dropped = g.dropped ∙ ap (λ l. l ++ (id ∷ [])) h.dropped;
    counts = g.counts ∙ h.counts;
    objects = λ r w at ne. g.objects r w (h.objects r w at ne) ne;
    region = unmoved-then old.region now.region new.region h.region g.region;
  }

-- how many versions a chain has, where it is there
abbrev pub versions_of : Option KeptChain → ℕ
versions_of None = 0
versions_of (Some k) = length k.chain.versions

pub some-idle : (m : Memory) (id : ℕ) (k : KeptChain) → chain_at m id ≡ Some k → IsIdle m id k.chain → IsSomeAnd (chain_at m id) (λ q. IsIdle m id q.chain)
some-idle m id k e idle = subst (λ (o : Option KeptChain). IsSomeAnd o (λ q. IsIdle m id q.chain)) (sym e) idle
