-- A chain that is made, and a version that is put over those of one: the memory then, and what is said of it.
use Rattle.std.proofs.Common.{◌≡◌, ℕ, ◌≤◌, ◌/◌, true, false, List, [], ◌∷◌, ◌++◌, Option, Some, None, length, refl, subst, slice_index_or, arith}
use Rattle.lsa_store.specs.declared.place.Ref.{Ref}
use Rattle.lsa_region.specs.declared.end.End.TheVariants.{Obj}
use Rattle.lsa_region.specs.declared.end.Root.{Root}
use Rattle.lsa_region.specs.Region.{View, link_of, slots_of, IsRootAdded, IsRootDropped, IsWell, SameButRoots}
use Rattle.lsa_list.specs.declared.recency.List.{List as Slots}
use Rattle.rc_cell.specs.declared.writes.Tomb.{Tomb}
use Rattle.rc_rowcode.specs.Objects.{dummy_size}
use Rattle.rc_core.specs.declared.entries.ChainKind.{ChainKind}
use Rattle.rc_core.specs.declared.entries.ChainKind.TheVariants.{Cache, Memtable}
use Rattle.rc_core.specs.declared.entries.Flag.{Flag}
use Rattle.rc_core.specs.declared.entries.Flag.TheVariants.{Inherit}
use Rattle.rc_core.specs.Steps.{version_of}
use Rattle.rc_core.specs.Version.{Version, end_position}
use Rattle.rc_version.specs.Versions.{IsMarked, IsUnlisted, IsVersionOf}
use Rattle.rc_memory.specs.Partitions.{AreStanding, PartitionEntry, StandingVersion, among, partition_of, standing}
use Rattle.rc_registry.specs.Registry.{Registry, IsNumberIn, new_use, on_use, put_at_number, set_updating, use_at, with_use, without_version}
use Rattle.rc_memory.specs.declared.counts.Counts.{Counts}
use Rattle.rc_memory.specs.Memory.{KeptChain, Memory, IsVersionAt, chain_at, chain_made, without_chain, fewer_versions, listed_as, more_versions, on_shown, update_begun}
use Rattle.rc_memory.specs.Kept.{IsMemory}
use Rattle.rc_memory.specs.Changes.{CanDrop, NothingListed}
use Rattle.rc_memory.specs.laws.At.{unused-chain}
use Rattle.rc_memory.specs.laws.Chains.{memory-begun, memory-fewer, memory-gone, memory-made, memory-more}
use Rattle.rc_chain.specs.Lives.{IsChainChanged, IsChainDropped, IsChainMade, IsVersionDropped, flag_of_new, with_version_over}
use Rattle.rc_chain.proofs.Gone.{chain-dropped-is, version-dropped-is}
use Rattle.rc_chain.proofs.Living.{held-slot}
use Rattle.rc_chain.proofs.Made.{chain-made-is, update-begun-is, version-added-is}

-- a memory that these are, of which something is said
abbrev pub HasBecome : ℕ → Slots → View → Registry → Counts → (Memory → Type 0) → Type 0
HasBecome S slots v registry counts P = (n : Memory) × IsMemory S slots v registry counts n × P n

end-size : (S : ℕ) → 88 ≤ S / 8 → dummy_size end_position ≤ S / 8
end-size S fits = let is : dummy_size end_position ≡ 88 = refl in omega (arith, fits, is)

-- what putting a version over those of a partition leaves
pub record IsPut (mid new : View) (root : Root) (n : Ref) (flag : Flag) (pt : Option Tomb) (phase : ℕ) : Type 0 where
  pub added : (slots : Slots) (front : List PartitionEntry) (versions : List StandingVersion) (back : List PartitionEntry) (listed : List Ref) → AreStanding slots mid (front ++ (partition_of root versions ∷ back)) listed
      → (end : Ref) × AreStanding slots new (front ++ (partition_of root (versions ++ (standing n (end ∷ []) (version_of flag pt phase) ∷ [])) ∷ back)) listed × IsUnlisted new end
  pub statics : (q : Ref) (refs : List Ref) (d : Version) → IsVersionOf mid q refs d → link_of new (Obj q 3) ≡ link_of mid (Obj q 3)
  pub epoch : IsMarked mid new
  pub slots : slots_of new ≡ slots_of mid
  pub budget : length new.usages ≡ length mid.usages
  pub moved : new.moved ≡ mid.moved
  pub compacted : new.compacted ≡ mid.compacted
  pub well : IsWell new

-- what dropping a version of a partition leaves
pub record IsTakenAway (mid new : View) (root : Root) (n : Ref) : Type 0 where
  pub dropped : (slots : Slots) (front : List PartitionEntry) (older : List StandingVersion) (s : StandingVersion) (newer : List StandingVersion) (back : List PartitionEntry) (listed : List Ref) → s.object ≡ n
      → AreStanding slots mid (among front root older s newer back) listed → AreStanding slots new (front ++ (partition_of root (older ++ newer) ∷ back)) listed
  pub statics : (q : Ref) (refs : List Ref) (d : Version) → (q ≡ n → ⊥) → IsVersionOf mid q refs d → link_of new (Obj q 3) ≡ link_of mid (Obj q 3)
  pub epoch : IsMarked mid new
  pub slots : slots_of new ≡ slots_of mid
  pub budget : length new.usages ≡ length mid.usages
  pub moved : new.moved ≡ mid.moved
  pub compacted : new.compacted ≡ mid.compacted
  pub well : IsWell new

module _ (S : ℕ) (slots : Slots) (old : View) (registry : Registry) (counts : Counts) (m : Memory) (h : IsMemory S slots old registry counts m) where
  module _ (mid new : View) (root : Root) (added : IsRootAdded old mid root) (same : SameButRoots old mid) (well : IsWell mid) where
    -- a root slot came, a chain was entered in the table, and a version was put at it
    pub made-here : (id : ℕ) (kind : ChainKind) (pt : Option Tomb) (phase : ℕ) (n : Ref) → 88 ≤ S / 8 → use_at registry.uses id ≡ None → (IsNumberIn registry.dropped id → ⊥) → IsPut mid new root n (flag_of_new kind) pt phase
        → HasBecome S slots new (with_use id (Some (new_use root kind)) registry) counts (IsChainMade id kind pt phase m.recency m)
    made-here id kind pt phase n fits free told p =
        let vacant = unused-chain registry.uses m.standing m.chains id h.held.kept free in
        let k = memory-made S slots old mid new registry counts m h id root kind vacant added same well p.well p.slots n (flag_of_new kind) pt phase (end-size S fits) (p.added slots) p.statics in (
          chain_made id root kind (standing n (k.0 ∷ []) (version_of (flag_of_new kind) pt phase)) new m,
          k.1,
          chain-made-is slots old mid new registry (with_use id (Some (new_use root kind)) registry) counts m h.held id root kind pt phase added same n k.0 k.1.held free vacant
              (λ on. told (subst (λ l. IsNumberIn l id) h.held.dropped on)) p.statics p.budget p.moved p.compacted p.epoch,
        )

    -- a root slot came and went
    pub slot-here : IsRootDropped mid new root → SameButRoots mid new → IsWell new → IsMemory S slots new registry counts (listed_as m.recency new m)
    slot-here gone later after = record {
      held = held-slot slots old registry counts m h.held mid new root added same gone later after;
      sound = h.sound;
      rule = record { once = h.rule.once; members = h.rule.members; complete = h.rule.complete };
      fit = h.fit;
    }

  -- a version was put over those of a chain
  module _ (new : View) (id : ℕ) (p : PartitionEntry) (there : slice_index_or m.standing id None ≡ Some p) (phase : ℕ) (n : Ref) (fits : 88 ≤ S / 8) (u : IsPut old new p.root n Inherit None phase) where
    pub over-memtable : ((k : KeptChain) → chain_at m id ≡ Some k → (k.chain.kind ≡ Memtable) × (k.chain.updating ≡ false)) → HasBecome S slots new registry counts (IsChainChanged id (on_shown (with_version_over phase)) m.recency m)
    over-memtable is =
        let k = memory-more S slots old new registry counts m h u.well u.slots id p there n Inherit None phase (end-size S fits) (u.added slots) u.statics (λ q e. (is q e).0) in (
          more_versions id (standing n (k.0 ∷ []) (version_of Inherit None phase)) new m,
          k.1,
          version-added-is slots old new registry registry counts m h.held id (standing n (k.0 ∷ []) (version_of Inherit None phase)) p there u.statics u.budget u.moved u.compacted u.epoch phase refl is k.1.held,
        )

    pub over-cached : ((k : KeptChain) → chain_at m id ≡ Some k → (k.chain.kind ≡ Cache) × (k.chain.attached ≡ true) × (k.chain.updating ≡ false))
        → HasBecome S slots new (on_use id (set_updating true) registry) counts (IsChainChanged id (on_shown (with_version_over phase)) m.recency m)
    over-cached is =
        let k = memory-begun S slots old new registry counts m h u.well u.slots id p there n Inherit None phase (end-size S fits) (u.added slots) u.statics is in (
          update_begun id (standing n (k.0 ∷ []) (version_of Inherit None phase)) new m,
          k.1,
          update-begun-is slots old new registry (on_use id (set_updating true) registry) counts m h.held id (standing n (k.0 ∷ []) (version_of Inherit None phase)) p there u.statics u.budget u.moved u.compacted u.epoch phase refl (λ q e. (is q e).0) k.1.held,
        )

  -- a version was dropped
  pub fewer-here : (new : View) (id j : ℕ) (p : PartitionEntry) (s : StandingVersion) → slice_index_or m.standing id None ≡ Some p → IsVersionAt p.versions j s → ((k : KeptChain) → chain_at m id ≡ Some k → CanDrop k.chain j) → NothingListed id j m
      → IsTakenAway old new p.root s.object → HasBecome S slots new (on_use id (without_version j) registry) counts (IsVersionDropped id j m)
  fewer-here new id j p s there number can free t =
      let k = memory-fewer S slots old new registry counts m h t.well t.slots id j p s there number (t.dropped slots) t.statics can free in
      (fewer_versions id j new m, k, version-dropped-is slots old new registry (on_use id (without_version j) registry) counts m h.held id j p s there number t.statics t.budget t.moved t.compacted t.epoch free k.held)

  -- the last version was dropped, and the root slot with it
  pub gone-here : (mid new : View) (id : ℕ) (root : Root) (s : StandingVersion) → slice_index_or m.standing id None ≡ Some (partition_of root (s ∷ [])) → NothingListed id 0 m → IsTakenAway old mid root s.object → IsRootDropped mid new root → SameButRoots mid new → IsWell new
      → HasBecome S slots new (record { uses = put_at_number id None registry.uses; dropped = registry.dropped ++ (id ∷ []) }) counts (IsChainDropped id m.recency m)
  gone-here mid new id root s there free t gone same well =
      let k = memory-gone S slots old mid new registry counts m h id root s there free t.well t.slots (t.dropped slots) t.statics gone same well in (
        without_chain id new m,
        k,
        chain-dropped-is slots old mid new registry (record { uses = put_at_number id None registry.uses; dropped = registry.dropped ++ (id ∷ []) }) counts m h.held id (partition_of root (s ∷ [])) s there
            (record { older = []; newer = []; split = refl; number = refl }) root gone same t.statics t.budget t.moved t.compacted t.epoch k.held,
      )
