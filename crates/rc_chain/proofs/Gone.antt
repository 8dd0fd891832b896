-- What is said of a version that was dropped, and of a chain that is gone.
use Rattle.std.proofs.Common.{◌≡◌, ◌≢◌, ℕ, suc, List, ◌++◌, Some, None, is_some, length, inl, inr, refl, sym, ap, ◌∙◌, subst, slice_index_or, take, drop, cond, eq-eqb, ne_eqb}
use Rattle.std.specs.Option.{option_map}
use Rattle.lsa_pool.specs.laws.Usages.{decided}
use Rattle.lsa_store.specs.declared.place.Ref.{Ref}
use Rattle.lsa_region.specs.declared.end.End.TheVariants.{Obj}
use Rattle.lsa_region.specs.declared.end.Root.{Root}
use Rattle.lsa_region.specs.Region.{View, link_of, IsRootDropped, SameButRoots}
use Rattle.lsa_list.specs.declared.recency.List.{List as Slots}
use Rattle.rc_core.specs.Steps.{number_after_removal}
use Rattle.rc_core.specs.Version.{Version, end_position}
use Rattle.rc_version.specs.Versions.{IsMarked, IsVersionOf}
use Rattle.rc_version.specs.laws.Marked.{marked-same, marked-then}
use Rattle.rc_memory.specs.Partitions.{PartitionEntry, StandingVersion}
use Rattle.rc_registry.specs.Registry.{Registry}
use Rattle.rc_memory.specs.declared.counts.Counts.{Counts}
use Rattle.rc_memory.specs.Memory.{Member, Memory, IsVersionAt, without_chain, fewer_versions, partition_without, renumbered_member}
use Rattle.rc_memory.specs.Kept.{HoldMemory}
use Rattle.rc_memory.specs.Changes.{IsUnmoved, NothingListed}
use Rattle.rc_memory.specs.laws.Places.{same_some, version-place}
use Rattle.rc_memory.specs.laws.Put.{put-at, put-beside}
use Rattle.rc_memory.specs.laws.Versions.{all-but-is, without-at}
use Rattle.rc_chain.specs.Lives.{IsChainDropped, IsVersionDropped}
use Rattle.rc_chain.proofs.Living.{IsStandingAt, object-stands}

module _ (slots : Slots) (old new : View) (registry later : Registry) (counts : Counts) (m : Memory) (h : HoldMemory slots old registry counts m) (id j : ℕ) (p : PartitionEntry) (s : StandingVersion)
    (there : slice_index_or m.standing id None ≡ Some p) (number : IsVersionAt p.versions j s) where
  -- a version at another place is another object
  other-object : (i l : ℕ) (t : StandingVersion) → IsStandingAt m i l t → (i ≡ id → l ≡ j → ⊥) → t.object ≢ s.object
  other-object i l t a ne e = let same = version-place slots old h.well m.standing h.listed h.stands i id l j a.partition p t s a.chain there a.number number e in ne same.0 same.1

  fewer : PartitionEntry
  fewer = partition_without j p

  still-numbered : (l : ℕ) (t : StandingVersion) → IsVersionAt p.versions l t → l ≢ j → IsVersionAt (partition_without j p).versions (number_after_removal j l) t
  still-numbered l t a ne = subst (λ xs. IsVersionAt xs (number_after_removal j l) t) (sym (ap (λ xs. take j xs ++ drop (suc j) xs) number.split ∙ all-but-is number.older s number.newer j number.number))
      (subst (λ n. IsVersionAt (number.older ++ number.newer) n t) (λ i. number_after_removal (number.number i) (a.number i))
      (without-at number.older number.newer s t a.older a.newer (sym number.split ∙ a.split) (λ e. ne (sym a.number ∙ e ∙ number.number))))

  at-chain : (w : Member) → w.chain ≡ id → (renumbered_member id j w).version ≡ number_after_removal j w.version
  at-chain w e = ap (λ b. cond b (number_after_removal j w.version) w.version) (eq-eqb w.chain id e)

  beside-chain : (w : Member) → w.chain ≢ id → (renumbered_member id j w).version ≡ w.version
  beside-chain w ne = ap (λ b. cond b (number_after_removal j w.version) w.version) (ne_eqb w.chain id ne)

  fewer-stands : (w : Member) (t : StandingVersion) → IsStandingAt m w.chain w.version t → (w.chain ≡ id → w.version ≡ j → ⊥) → IsStandingAt (fewer_versions id j new m) w.chain (renumbered_member id j w).version t
  fewer-stands w t a ne = elim (decided w.chain id) [
    | inl here ↦
        let is = same_some a.partition p (sym a.chain ∙ ap (λ x. slice_index_or m.standing x None) here ∙ there) in record {
          partition = partition_without j p;
          chain = ap (λ x. slice_index_or (fewer_versions id j new m).standing x None) here ∙ put-at m.standing id (option_map (partition_without j) (slice_index_or m.standing id None)) ∙ ap (option_map (partition_without j)) there;
          number = subst (λ n. IsVersionAt (partition_without j p).versions n t) (sym (at-chain w here)) (still-numbered w.version t (subst (λ (q : PartitionEntry). IsVersionAt q.versions w.version t) is a.number) (ne here));
        }
    | inr off ↦ record {
      partition = a.partition;
      chain = put-beside m.standing id (option_map (partition_without j) (slice_index_or m.standing id None)) w.chain off ∙ a.chain;
      number = subst (λ n. IsVersionAt a.partition.versions n t) (sym (beside-chain w off)) a.number;
    }
  ]

  module _ (statics : (q : Ref) (refs : List Ref) (d : Version) → q ≢ s.object → IsVersionOf old q refs d → link_of new (Obj q 3) ≡ link_of old (Obj q 3))
      (budget : length new.usages ≡ length old.usages) (moved : new.moved ≡ old.moved) (compacted : new.compacted ≡ old.compacted) (epoch : IsMarked old new) (free : NothingListed id j m) where
    pub version-dropped-is : HoldMemory slots new later counts (fewer_versions id j new m) → IsVersionDropped id j m (fewer_versions id j new m)
    version-dropped-is k = record {
      chains = refl;
      recency = (m.recency, inl (free (Some end_position), refl), refl);
      dropped = refl;
      counts = refl;
      objects = λ r w at ne. object-stands slots old new registry later counts counts m (fewer_versions id j new m) h k r w (renumbered_member id j w) at refl (λ t a. fewer-stands w t a ne)
          (λ q refs d t a is stood. statics q refs d (λ e. other-object w.chain w.version t a ne (is ∙ e)) stood);
      region = subst (λ v. IsUnmoved v new) (sym h.region) (record { budget = budget; moved = moved; compacted = compacted; epoch = epoch });
    }

-- a chain gone with its last version
module _ (slots : Slots) (old mid new : View) (registry later : Registry) (counts : Counts) (m : Memory) (h : HoldMemory slots old registry counts m) (id : ℕ) (p : PartitionEntry) (s : StandingVersion)
    (there : slice_index_or m.standing id None ≡ Some p) (number : IsVersionAt p.versions 0 s) (root : Root) (gone : IsRootDropped mid new root) (same : SameButRoots mid new)
    (statics : (q : Ref) (refs : List Ref) (d : Version) → q ≢ s.object → IsVersionOf old q refs d → link_of mid (Obj q 3) ≡ link_of old (Obj q 3))
    (budget : length mid.usages ≡ length old.usages) (moved : mid.moved ≡ old.moved) (compacted : mid.compacted ≡ old.compacted) (epoch : IsMarked old mid) where
  pub chain-dropped-is : HoldMemory slots new later counts (without_chain id new m) → IsChainDropped id m.recency m (without_chain id new m)
  chain-dropped-is k = record {
    chains = refl;
    recency = refl;
    dropped = refl;
    counts = refl;
    objects = λ r w at ne. object-stands slots old new registry later counts counts m (without_chain id new m) h k r w w at refl
        (λ t a. record { partition = a.partition; chain = put-beside m.standing id None w.chain ne ∙ a.chain; number = a.number })
        (λ q refs d t a is stood. gone.links (Obj q 3) ∙ statics q refs d (λ e. other-object slots old new registry later counts m h id 0 p s there number w.chain w.version t a (λ on l. ne on) (is ∙ e)) stood);
    region = subst (λ v. IsUnmoved v new) (sym h.region) (record {
      budget = ap length same.usages ∙ budget;
      moved = same.moved ∙ moved;
      compacted = same.compacted ∙ compacted;
      epoch = marked-then old mid new epoch (marked-same mid new same.epoch (λ r. ap is_some (same.bodies r)));
    });
  }
