-- A memory with a chain of no version more, and with one less.
use Rattle.std.proofs.Common.{◌≡◌, ◌≢◌, ℕ, List, [], ◌∷◌, ◌++◌, Option, Some, None, refl, sym, ap, ◌∙◌, subst, map, slice_index_or, arith}
use Rattle.std.specs.Prelude.{Contains}
use Rattle.rc_position.specs.declared.positions.Pos.{Pos}
use Rattle.lsa_store.specs.declared.place.Ref.{Ref}
use Rattle.lsa_region.specs.declared.end.End.{End}
use Rattle.lsa_region.specs.declared.end.End.TheVariants.{Obj}
use Rattle.lsa_region.specs.declared.end.Root.{Root}
use Rattle.lsa_region.specs.Region.{View, link_of, IsRootAdded, IsRootDropped, IsWell, SameButRoots}
use Rattle.rc_partition.specs.List.{List as Slots}
use Rattle.rc_partition.specs.Trees.{stands-same}
use Rattle.rc_registry.specs.ChainKind.{ChainKind}
use Rattle.rc_partition.specs.Partitions.{AreStanding, PartitionEntry, StandingVersion, partition_of}
use Rattle.rc_partition.specs.laws.Lists.{elem-none}
use Rattle.rc_partition.specs.laws.Roots.{stands-with_empty, stands-without_empty}
use Rattle.rc_registry.specs.declared.uses.Use.{Use}
use Rattle.rc_registry.specs.Registry.{Registry, new_use, put_at_number, with_use}
use Rattle.rc_memory.specs.declared.counts.Counts.{Counts}
use Rattle.rc_memory.specs.Memory.{KeptChain, Member, Memory, IsObjectAt, IsOfVersion, chain_at, without_chain, empty_chain, with_new_chain}
use Rattle.rc_memory.specs.Kept.{HoldMemory, chain_of_use}
use Rattle.rc_memory.specs.laws.At.{kept-at, unused-chain}
use Rattle.rc_memory.specs.laws.Places.{no_some, same_some}
use Rattle.rc_memory.specs.laws.Put.{kept-put, length-added, length-gone, placed, put-beside, unused-at, used-at, IsUsedAs}
use Rattle.rc_memory.specs.laws.Standing.{stand-each, version-in}

module _ (slots : Slots) (old new : View) (registry : Registry) (counts : Counts) (m : Memory) (h : HoldMemory slots old registry counts m)
    (links : (e : End) → link_of new e ≡ link_of old e) (same : SameButRoots old new) (well : IsWell new) (id : ℕ) where
  of_same : (s : StandingVersion) (at : Option Pos) (r : Ref) → IsOfVersion old s at r → IsOfVersion new s at r
  of_same s None r a = links (Obj s.object 3) ∙ a
  of_same s (Some x) r a = (a.0, stands-same old new r x (same.bodies r) a.1)

  object_same : (p : Option PartitionEntry) (r : Ref) (w : Member) → w.chain ≢ id → IsObjectAt old m.standing r w → IsObjectAt new (put_at_number id p m.standing) r w
  object_same p r w ne a = record { partition = a.partition; version = a.version; chain = put-beside m.standing id p w.chain ne ∙ a.chain; number = a.number; object = of_same a.version w.position r a.object }

  -- a chain of no version comes with its root slot
  pub held-opened : (root : Root) (kind : ChainKind) → IsRootAdded old new root → slice_index_or registry.uses id None ≡ None → HoldMemory slots new (with_use id (Some (new_use root kind)) registry) counts (with_new_chain id root kind new m)
  held-opened root kind added free =
      let none = unused-at registry.uses m.standing m.chains id h.kept free in record {
        well = well;
        region = refl;
        kept = kept-put registry.uses m.standing m.chains id (Some (new_use root kind)) (Some (partition_of root [])) (Some (chain_of_use (new_use root kind) (partition_of root []))) h.kept (refl, refl);
        listed = h.listed;
        stands = subst (λ ps. AreStanding slots new ps h.listed) (sym ((placed m.standing id).with_one (partition_of root [])))
            (stands-with_empty slots old new (placed m.standing id).front (placed m.standing id).back root h.listed added same h.well (subst (λ ps. AreStanding slots old ps h.listed) ((placed m.standing id).free none) h.stands));
        recency = stand-each old new m.standing (put_at_number id (Some (partition_of root [])) m.standing) h.listed m.recency
            (λ r w in_refs on a. object_same (Some (partition_of root [])) r w (λ e. no_some a.partition (sym none ∙ ap (λ n. slice_index_or m.standing n None) (sym e) ∙ a.chain)) a) h.recency;
        dropped = h.dropped;
        counted = h.counted;
        roots = omega (arith, added.there, h.roots, length-added m.chains id (empty_chain kind) (unused-chain registry.uses m.standing m.chains id h.kept free));
      }

  -- and goes with it
  pub held-closed : (root : Root) → IsRootDropped old new root → slice_index_or m.standing id None ≡ Some (partition_of root []) → HoldMemory slots new (record { uses = put_at_number id None registry.uses; dropped = registry.dropped ++ (id ∷ []) }) counts (without_chain id new m)
  held-closed root gone there = record {
    well = well;
    region = refl;
    kept = kept-put registry.uses m.standing m.chains id None None None h.kept refl;
    listed = h.listed;
    stands = subst (λ ps. AreStanding slots new ps h.listed) (sym (placed m.standing id).without)
        (stands-without_empty slots old new (placed m.standing id).front (placed m.standing id).back root h.listed gone same (subst (λ ps. AreStanding slots old ps h.listed) ((placed m.standing id).there (partition_of root []) there) h.stands));
    recency = stand-each old new m.standing (put_at_number id None m.standing) h.listed m.recency (λ r w in_refs on a. object_same None r w (λ e. never r w e a) a) h.recency;
    dropped = ap (λ l. l ++ (id ∷ [])) h.dropped;
    counted = h.counted;
    roots = omega (arith, gone.there, h.roots, length-gone m.chains id (chain_of_use user.used (partition_of root [])) user.chain);
  } where
    user : IsUsedAs registry.uses m.chains id (partition_of root [])
    user = used-at registry.uses m.standing m.chains id (partition_of root []) h.kept there

    never : (r : Ref) (w : Member) → w.chain ≡ id → IsObjectAt old m.standing r w → ⊥
    never r w e a = elem-none a.version (subst (λ (q : PartitionEntry). Contains q.versions a.version)
        (same_some a.partition (partition_of root []) (sym a.chain ∙ ap (λ n. slice_index_or m.standing n None) e ∙ there)) (version-in a.partition.versions w.version a.version a.number))

-- of a chain of no version nothing but its root slot stands
module _ (slots : Slots) (v : View) (registry : Registry) (counts : Counts) (m : Memory) (h : HoldMemory slots v registry counts m) (id : ℕ) where
  no_versions : (ss : List StandingVersion) → map (λ (s : StandingVersion). s.version) ss ≡ [] → ss ≡ []
  no_versions [] e = refl
  no_versions (s ∷ ss) e = cc e

  pub empty-at : (k : KeptChain) → chain_at m id ≡ Some k → k.chain.versions ≡ [] → (u : Use) × (slice_index_or registry.uses id None ≡ Some u) × (slice_index_or m.standing id None ≡ Some (partition_of u.root []))
  empty-at k there none =
      let a = kept-at registry.uses m.standing m.chains id k h.kept there in
      (a.used, a.at, a.stands ∙ (λ i. Some (partition_of (a.root i) (no_versions a.partition.versions (ap (λ (x : KeptChain). x.chain.versions) (sym a.same) ∙ none) i))))
