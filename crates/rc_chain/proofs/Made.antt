-- What is said of a chain that was made, of a version put over others, of one that was dropped, and of a chain that is gone.
use Rattle.std.proofs.Common.{◌≡◌, ℕ, zero, suc, true, false, List, [], ◌∷◌, ◌++◌, Option, Some, None, is_some, length, inl, inr, refl, sym, ap, ◌∙◌, subst, slice_index_or}
use Rattle.std.specs.Option.{option_map}
use Rattle.lsa_pool.specs.laws.Usages.{decided}
use Rattle.rc_cell.specs.declared.writes.Tomb.{Tomb}
use Rattle.lsa_store.specs.declared.place.Ref.{Ref}
use Rattle.lsa_region.specs.declared.end.End.TheVariants.{Obj}
use Rattle.lsa_region.specs.declared.end.Root.{Root}
use Rattle.lsa_region.specs.Region.{View, link_of, IsRootAdded, SameButRoots}
use Rattle.lsa_list.specs.declared.recency.List.{List as Slots}
use Rattle.rc_core.specs.declared.entries.ChainKind.{ChainKind}
use Rattle.rc_core.specs.declared.entries.ChainKind.TheVariants.{Cache, Memtable}
use Rattle.rc_core.specs.declared.entries.Flag.TheVariants.{Inherit}
use Rattle.rc_core.specs.Steps.{version_of}
use Rattle.rc_core.specs.Version.{Version}
use Rattle.rc_version.specs.Versions.{IsMarked, IsVersionOf}
use Rattle.rc_version.specs.laws.Marked.{marked-same, marked-then}
use Rattle.rc_version.specs.laws.Staying.{version-outward}
use Rattle.rc_memory.specs.Partitions.{PartitionEntry, StandingVersion, partition_of, standing}
use Rattle.rc_registry.specs.Registry.{Registry, IsNumberIn, put_at_number, use_at}
use Rattle.rc_memory.specs.declared.counts.Counts.{Counts}
use Rattle.rc_memory.specs.Memory.{KeptChain, Memory, IsVersionAt, chain_at, chain_made, empty_chain, more_versions, on_chain, on_shown, partition_and, shown_updating, shown_with, update_begun}
use Rattle.rc_memory.specs.Kept.{HoldMemory}
use Rattle.rc_memory.specs.Changes.{IsUnmoved}
use Rattle.rc_memory.specs.laws.Places.{no_some, same_some}
use Rattle.rc_memory.specs.laws.Put.{put-at, put-beside, unused-at}
use Rattle.rc_memory.specs.laws.Versions.{still-at}
use Rattle.rc_chain.specs.Lives.{IsChainChanged, IsChainMade, flag_of_new, is_cache, with_version_over}
use Rattle.rc_chain.proofs.Living.{IsStandingAt, all-stand}

pub put-put : {X : Type 0} (xs : List (Option X)) (n : ℕ) (a b : Option X) → put_at_number n a (put_at_number n b xs) ≡ put_at_number n a xs
put-put [] zero a b = refl
put-put [] (suc n) a b = ap (λ l. None ∷ l) (put-put [] n a b)
put-put (x ∷ xs) zero a b = refl
put-put (x ∷ xs) (suc n) a b = ap (λ l. x ∷ l) (put-put xs n a b)

-- something done to what was put at a number
on-put : (cs : List (Option KeptChain)) (id : ℕ) (k : KeptChain) (f : KeptChain → KeptChain) → on_chain id f (put_at_number id (Some k) cs) ≡ put_at_number id (Some (f k)) cs
on-put cs id k f = ap (λ o. put_at_number id (option_map f o) (put_at_number id (Some k) cs)) (put-at cs id (Some k)) ∙ put-put cs id (Some (f k)) (Some k)

-- two things done to one chain
mapped-twice : {X : Type 0} (f g : X → X) (o : Option X) → option_map g (option_map f o) ≡ option_map (λ x. g (f x)) o
mapped-twice f g None = refl
mapped-twice f g (Some x) = refl

pub on-twice : (cs : List (Option KeptChain)) (id : ℕ) (f g : KeptChain → KeptChain) → on_chain id g (on_chain id f cs) ≡ on_chain id (λ k. g (f k)) cs
on-twice cs id f g = ap (λ o. put_at_number id (option_map g o) (on_chain id f cs)) (put-at cs id (option_map f (slice_index_or cs id None)))
    ∙ put-put cs id (option_map g (option_map f (slice_index_or cs id None))) (option_map f (slice_index_or cs id None)) ∙ ap (λ o. put_at_number id o cs) (mapped-twice f g (slice_index_or cs id None))

-- two changes that are alike for the chain that is there
pub on-alike : (cs : List (Option KeptChain)) (id : ℕ) (f g : KeptChain → KeptChain) → ((k : KeptChain) → slice_index_or cs id None ≡ Some k → f k ≡ g k) → on_chain id f cs ≡ on_chain id g cs
on-alike cs id f g alike = ap (λ o. put_at_number id o cs) (of (slice_index_or cs id None) refl)
  where
    of : (o : Option KeptChain) → slice_index_or cs id None ≡ o → option_map f o ≡ option_map g o
    of None e = refl
    of (Some k) e = ap (λ x. Some x) (alike k e)

-- ---- a chain made

module _ (slots : Slots) (old mid new : View) (registry later : Registry) (counts : Counts) (m : Memory) (h : HoldMemory slots old registry counts m) (id : ℕ) (root : Root) (kind : ChainKind) (pt : Option Tomb) (phase : ℕ)
    (added : IsRootAdded old mid root) (same : SameButRoots old mid) (n end : Ref) (k : HoldMemory slots new later counts (chain_made id root kind (standing n (end ∷ []) (version_of (flag_of_new kind) pt phase)) new m))
    (free : use_at registry.uses id ≡ None) where
  abbrev new_version : StandingVersion
  new_version = standing n (end ∷ []) (version_of (flag_of_new kind) pt phase)

  none-stands : slice_index_or m.standing id None ≡ None
  none-stands = unused-at registry.uses m.standing m.chains id h.kept free

  -- what stood at a number stands there still
  stood : (i j : ℕ) (s : StandingVersion) → IsStandingAt m i j s → IsStandingAt (chain_made id root kind new_version new m) i j s
  stood i j s a = elim (decided i id) [
    | inl here ↦ absurd (no_some a.partition (sym none-stands ∙ ap (λ x. slice_index_or m.standing x None) (sym here) ∙ a.chain))
    | inr ne ↦ record {
      partition = a.partition;
      chain = put-beside (put_at_number id (Some (partition_of root [])) m.standing) id (option_map (partition_and new_version) (slice_index_or (put_at_number id (Some (partition_of root [])) m.standing) id None)) i ne ∙ put-beside m.standing id (Some (partition_of root [])) i ne ∙ a.chain;
      number = a.number;
    }
  ]

  module _ (vacant : chain_at m id ≡ None) (told : IsNumberIn m.dropped id → ⊥) (statics : (q : Ref) (refs : List Ref) (d : Version) → IsVersionOf mid q refs d → link_of new (Obj q 3) ≡ link_of mid (Obj q 3))
      (budget : length new.usages ≡ length mid.usages) (moved : new.moved ≡ mid.moved) (compacted : new.compacted ≡ mid.compacted) (epoch : IsMarked mid new) where
    pub chain-made-is : IsChainMade id kind pt phase m.recency m (chain_made id root kind new_version new m)
    chain-made-is = record {
      vacant = vacant;
      told = told;
      chains = on-put m.chains id (empty_chain kind) (on_shown (λ c. shown_with (c.versions ++ (version_of (flag_of_new kind) pt phase ∷ [])) c));
      recency = refl;
      dropped = refl;
      counts = refl;
      still = all-stand slots old new registry later counts counts m (chain_made id root kind new_version new m) h k stood
          (λ q refs d is. statics q refs d (version-outward old mid q refs d (λ e far. added.links e) same.bodies is) ∙ added.links (Obj q 3));
      region = subst (λ v. IsUnmoved v new) (sym h.region) (record {
        budget = budget ∙ ap length same.usages;
        moved = moved ∙ same.moved;
        compacted = compacted ∙ same.compacted;
        epoch = marked-then old mid new (marked-same old mid same.epoch (λ r. ap is_some (same.bodies r))) epoch;
      });
    }

-- ---- a version put over the others

module _ (slots : Slots) (old new : View) (registry later : Registry) (counts : Counts) (m : Memory) (h : HoldMemory slots old registry counts m) (id : ℕ) (t : StandingVersion) (p : PartitionEntry) (there : slice_index_or m.standing id None ≡ Some p) where
  over : (n : Memory) → n.standing ≡ (more_versions id t new m).standing → (i j : ℕ) (s : StandingVersion) → IsStandingAt m i j s → IsStandingAt n i j s
  over n same i j s a = elim (decided i id) [
    | inl here ↦
        let is = same_some a.partition p (sym a.chain ∙ ap (λ x. slice_index_or m.standing x None) here ∙ there) in record {
          partition = partition_and t p;
          chain = ap (λ st. slice_index_or st i None) same ∙ ap (λ x. slice_index_or (more_versions id t new m).standing x None) here
              ∙ put-at m.standing id (option_map (partition_and t) (slice_index_or m.standing id None)) ∙ ap (option_map (partition_and t)) there;
          number = still-at p.versions (t ∷ []) j s (subst (λ (q : PartitionEntry). IsVersionAt q.versions j s) is a.number);
        }
    | inr ne ↦ record { partition = a.partition; chain = ap (λ st. slice_index_or st i None) same ∙ put-beside m.standing id (option_map (partition_and t) (slice_index_or m.standing id None)) i ne ∙ a.chain; number = a.number }
  ]

  module _ (statics : (q : Ref) (refs : List Ref) (d : Version) → IsVersionOf old q refs d → link_of new (Obj q 3) ≡ link_of old (Obj q 3))
      (budget : length new.usages ≡ length old.usages) (moved : new.moved ≡ old.moved) (compacted : new.compacted ≡ old.compacted) (epoch : IsMarked old new) where
    unmoved : IsUnmoved m.region new
    unmoved = subst (λ v. IsUnmoved v new) (sym h.region) (record { budget = budget; moved = moved; compacted = compacted; epoch = epoch })

    -- of a memtable
    pub version-added-is : (phase : ℕ) → t.version ≡ version_of Inherit None phase → ((k : KeptChain) → chain_at m id ≡ Some k → (k.chain.kind ≡ Memtable) × (k.chain.updating ≡ false)) → HoldMemory slots new later counts (more_versions id t new m)
        → IsChainChanged id (on_shown (with_version_over phase)) m.recency m (more_versions id t new m)
    version-added-is phase is memtable k = record {
      chains = on-alike m.chains id (on_shown (λ c. shown_with (c.versions ++ (t.version ∷ [])) c)) (on_shown (with_version_over phase))
          (λ q e. λ i. record { chain = record { kind = q.chain.kind; versions = q.chain.versions ++ (is i ∷ []); attached = q.chain.attached; updating = ((memtable q e).1 ∙ ap is_cache (sym (memtable q e).0)) i; pins = q.chain.pins }; passed = q.passed });
      recency = refl;
      dropped = refl;
      counts = refl;
      still = all-stand slots old new registry later counts counts m (more_versions id t new m) h k (over (more_versions id t new m) refl) statics;
      region = unmoved;
    }

    -- of a cache chain, which is under update then
    pub update-begun-is : (phase : ℕ) → t.version ≡ version_of Inherit None phase → ((k : KeptChain) → chain_at m id ≡ Some k → k.chain.kind ≡ Cache) → HoldMemory slots new later counts (update_begun id t new m)
        → IsChainChanged id (on_shown (with_version_over phase)) m.recency m (update_begun id t new m)
    update-begun-is phase is cached k = record {
      chains = on-twice m.chains id (on_shown (λ c. shown_with (c.versions ++ (t.version ∷ [])) c)) (on_shown (shown_updating true))
          ∙ on-alike m.chains id (λ q. on_shown (shown_updating true) (on_shown (λ c. shown_with (c.versions ++ (t.version ∷ [])) c) q)) (on_shown (with_version_over phase))
          (λ q e. λ i. record { chain = record { kind = q.chain.kind; versions = q.chain.versions ++ (is i ∷ []); attached = q.chain.attached; updating = ap is_cache (sym (cached q e)) i; pins = q.chain.pins }; passed = q.passed });
      recency = refl;
      dropped = refl;
      counts = refl;
      still = all-stand slots old new registry later counts counts m (update_begun id t new m) h k (over (update_begun id t new m) refl) statics;
      region = unmoved;
    }
