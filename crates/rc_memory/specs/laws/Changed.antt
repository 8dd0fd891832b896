-- A memory after one version of a chain changed.
use Rattle.std.proofs.Common.{◌≡◌, ◌≢◌, ℕ, zero, suc, ◌+◌, List, [], ◌∷◌, ◌++◌, Option, Some, None, length, inl, inr, refl, sym, ap, ◌∙◌, subst, map, slice_index_or}
use Rattle.std.specs.Prelude.{Contains}
use Rattle.std.specs.Option.{option_map}
use Rattle.rc_position.specs.declared.positions.Pos.{Pos}
use Rattle.lsa_pool.specs.laws.Usages.{decided}
use Rattle.lsa_store.specs.declared.place.Ref.{Ref}
use Rattle.lsa_region.specs.Ends.{SlotCounts}
use Rattle.lsa_region.specs.declared.end.End.TheVariants.{Obj}
use Rattle.lsa_region.specs.Region.{View, link_of, IsSummed, IsWell}
use Rattle.rc_partition.specs.List.{List as Slots}
use Rattle.rc_partition.specs.Entries.{IsEntryAtPosition}
use Rattle.rc_partition.specs.Orders.{stands-once}
use Rattle.rc_registry.specs.Entry.{Entry}
use Rattle.rc_registry.specs.Steps.{on_version}
use Rattle.rc_registry.specs.Version.{Version}
use Rattle.rc_partition.specs.Versions.{HoldEntries, IsKeptBut, IsVersionOf, IsWeighed}
use Rattle.rc_partition.specs.Objects.{holds-stands}
use Rattle.rc_partition.specs.Partitions.{AreStanding, PartitionEntry, StandingVersion, among, partition_of, standing}
use Rattle.rc_partition.specs.laws.Changed.{stands-settled}
use Rattle.rc_partition.specs.laws.Lists.{elem-cases, elem-none}
use Rattle.rc_registry.specs.Registry.{Registry, put_at_number}
use Rattle.rc_memory.specs.declared.counts.Counts.{Counts}
use Rattle.rc_memory.specs.Memory.{Member, Memory, IsObjectAt, IsOfVersion, IsVersionAt, version_changed, on_chain, on_shown, on_version_of, partition_with, with_standing}
use Rattle.rc_memory.specs.Kept.{AreKept, HoldMemory, StandAt, chain_of_use, present}
use Rattle.rc_memory.specs.laws.Listed.{one-at}
use Rattle.rc_memory.specs.laws.Places.{same_some, version-place, version-there}
use Rattle.rc_memory.specs.laws.Put.{beside-at, kept-put, length-same, placed, put-at, put-beside, put-same, used-at, IsPlaced, IsUsedAs}
use Rattle.rc_memory.specs.laws.Standing.{stand-each}

-- ---- objects of versions that stay

module _ (old new : View) where
  entry_stays : (refs : List Ref) (es : List Entry) (r : Ref) (x : Pos) → HoldEntries old refs es → HoldEntries new refs es → Contains refs r → IsEntryAtPosition old r x → IsEntryAtPosition new r x
  entry_stays [] es r x h k on at = absurd (elem-none r on)
  entry_stays (q ∷ refs) [] r x h k on at = absurd h
  entry_stays (q ∷ refs) (e ∷ es) r x h k on at = elim (elem-cases q r refs on) [
    | inl same ↦ subst (λ z. IsEntryAtPosition new z x) same (subst (IsEntryAtPosition new q) (stands-once old q e.position x (holds-stands old q e h.0) (subst (λ z. IsEntryAtPosition old z x) (sym same) at)) (holds-stands new q e k.0))
    | inr later ↦ entry_stays refs es r x h.1 k.1 later at
  ]

  -- where a version stays, and the link to its static row, each of its objects stands where it stood
  pub of-stays : (t : StandingVersion) → IsVersionOf old t.object t.entries t.version → IsVersionOf new t.object t.entries t.version → link_of new (Obj t.object 3) ≡ link_of old (Obj t.object 3)
      → (at : Option Pos) (r : Ref) → IsOfVersion old t at r → IsOfVersion new t at r
  of-stays t h k link None r a = link ∙ a
  of-stays t h k link (Some x) r a = (a.0, entry_stays t.entries t.version.entries r x h.entries k.entries a.0 a.1)

-- ---- another version at a number

pub with-at : (older : List StandingVersion) (s : StandingVersion) (newer : List StandingVersion) (j : ℕ) (t : StandingVersion) → length older ≡ j → with_standing j t (older ++ (s ∷ newer)) ≡ older ++ (t ∷ newer)
with-at [] s newer zero t e = refl
with-at [] s newer (suc j) t e = cc e
with-at (o ∷ older) s newer zero t e = cc e
with-at (o ∷ older) s newer (suc j) t e = ap (λ l. o ∷ l) (with-at older s newer j t (cc e))

on-with : (j : ℕ) (t : StandingVersion) (ss : List StandingVersion) → map (λ (s : StandingVersion). s.version) (with_standing j t ss) ≡ on_version j (λ c. t.version) (map (λ (s : StandingVersion). s.version) ss)
on-with j t [] = refl
on-with zero t (s ∷ ss) = refl
on-with (suc j) t (s ∷ ss) = ap (λ l. s.version ∷ l) (on-with j t ss)

module _ (slots : Slots) (old new : View) (registry : Registry) (counts : Counts) (m : Memory) (h : HoldMemory slots old registry counts m)
    (id j : ℕ) (p : PartitionEntry) (s : StandingVersion) (there : slice_index_or m.standing id None ≡ Some p) (number : IsVersionAt p.versions j s) (now : List Ref) (c : Version) where
  abbrev after : PartitionEntry
  after = partition_of p.root (number.older ++ (standing s.object now c ∷ number.newer))

  abbrev pub place : IsPlaced m.standing id
  place = placed m.standing id

  pub user : IsUsedAs registry.uses m.chains id p
  user = used-at registry.uses m.standing m.chains id p h.kept there

  after-is : partition_with j (standing s.object now c) p ≡ partition_of p.root (number.older ++ (standing s.object now c ∷ number.newer))
  after-is = ap (λ vs. partition_of p.root vs) (ap (with_standing j (standing s.object now c)) number.split ∙ with-at number.older s number.newer j (standing s.object now c) number.number)

  pub standing-is : put_at_number id (option_map (partition_with j (standing s.object now c)) (slice_index_or m.standing id None)) m.standing ≡ put_at_number id (Some (partition_of p.root (number.older ++ (standing s.object now c ∷ number.newer)))) m.standing
  standing-is = ap (λ o. put_at_number id (option_map (partition_with j (standing s.object now c)) o) m.standing) there ∙ ap (λ q. put_at_number id (Some q) m.standing) after-is

  chains-are : on_chain id (on_shown (on_version_of j (λ v. c))) m.chains ≡ put_at_number id (Some (chain_of_use user.used (partition_of p.root (number.older ++ (standing s.object now c ∷ number.newer))))) m.chains
  chains-are = ap (λ o. put_at_number id (option_map (on_shown (on_version_of j (λ v. c))) o) m.chains) user.chain
      ∙ ap (λ (vs : List Version). put_at_number id (Some (record { chain = record { kind = user.used.kind; versions = vs; attached = user.used.attached; updating = user.used.updating; pins = user.used.pins }; passed = user.used.passed })) m.chains)
      (sym (on-with j (standing s.object now c) p.versions))
      ∙ ap (λ q. put_at_number id (Some (chain_of_use user.used q)) m.chains) after-is

  kept_after : AreKept registry.uses (put_at_number id (Some (partition_of p.root (number.older ++ (standing s.object now c ∷ number.newer)))) m.standing) (put_at_number id (Some (chain_of_use user.used (partition_of p.root (number.older ++ (standing s.object now c ∷ number.newer))))) m.chains)
  kept_after = subst (λ us. AreKept us (put_at_number id (Some (partition_of p.root (number.older ++ (standing s.object now c ∷ number.newer)))) m.standing) (put_at_number id (Some (chain_of_use user.used (partition_of p.root (number.older ++ (standing s.object now c ∷ number.newer))))) m.chains))
      (put-same registry.uses id user.used user.at)
      (kept-put registry.uses m.standing m.chains id (Some user.used) (Some (partition_of p.root (number.older ++ (standing s.object now c ∷ number.newer)))) (Some (chain_of_use user.used (partition_of p.root (number.older ++ (standing s.object now c ∷ number.newer))))) h.kept (user.root, refl))

  pub stands_before : AreStanding slots old (among place.front p.root number.older s number.newer place.back) h.listed
  stands_before = subst (λ ps. AreStanding slots old ps h.listed) (place.there p there ∙ ap (λ vs. place.front ++ (partition_of p.root vs ∷ place.back)) number.split) h.stands

  pub stands-after : IsKeptBut s.object old new → IsVersionOf new s.object now c → IsSummed old → IsWell new → IsSummed new → IsWeighed old new s.version c
      → AreStanding slots new (among place.front p.root number.older (standing s.object now c) number.newer place.back) h.listed
  stands-after kept_but is summed well summed_new weigh =
      stands-settled slots old new place.front p.root number.older s number.newer place.back h.listed h.well summed well summed_new kept_but stands_before now c is weigh

  module _ (these : Member → Type 0) (kept_but : IsKeptBut s.object old new) (is : IsVersionOf new s.object now c)
      (rows : (w : Member) (r : Ref) → these w → w.chain ≡ id → w.version ≡ j → IsOfVersion old s w.position r → IsOfVersion new (standing s.object now c) w.position r) where
    stays : (t : StandingVersion) → t.object ≢ s.object → IsVersionOf old t.object t.entries t.version → (at : Option Pos) (r : Ref) → IsOfVersion old t at r → IsOfVersion new t at r
    stays t ne k at r a = of-stays old new t k (kept_but.versions t.object t.entries t.version ne k) (kept_but.statics t.object t.entries t.version ne k) at r a

    module _ (r : Ref) (w : Member) (on : these w) (a : IsObjectAt old m.standing r w) where
      a_stands : IsVersionOf old a.version.object a.version.entries a.version.version
      a_stands = version-there slots old h.well m.standing h.listed h.stands w.chain w.version a.partition a.version a.chain a.number

      same_place : a.version.object ≡ s.object → (w.chain ≡ id) × (w.version ≡ j)
      same_place e = version-place slots old h.well m.standing h.listed h.stands w.chain id w.version j a.partition p a.version s a.chain there a.number number e

      -- an object at one of these places stands there still
      pub object_after : IsObjectAt new (put_at_number id (Some (partition_of p.root (number.older ++ (standing s.object now c ∷ number.newer)))) m.standing) r w
      object_after = elim (decided w.chain id) [
        | inr ne ↦ record {
          partition = a.partition;
          version = a.version;
          chain = put-beside m.standing id (Some (partition_of p.root (number.older ++ (standing s.object now c ∷ number.newer)))) w.chain ne ∙ a.chain;
          number = a.number;
          object = stays a.version (λ e. ne (same_place e).0) a_stands w.position r a.object;
        }
        | inl here ↦ in_chain here
      ] where
        in_chain : w.chain ≡ id → IsObjectAt new (put_at_number id (Some (partition_of p.root (number.older ++ (standing s.object now c ∷ number.newer)))) m.standing) r w
        in_chain here =
            let same_p = same_some a.partition p (sym a.chain ∙ ap (λ n. slice_index_or m.standing n None) here ∙ there) in
            let at_p : IsVersionAt p.versions w.version a.version = subst (λ (q : PartitionEntry). IsVersionAt q.versions w.version a.version) same_p a.number in
            let chain = ap (λ n. slice_index_or (put_at_number id (Some (partition_of p.root (number.older ++ (standing s.object now c ∷ number.newer)))) m.standing) n None) here ∙ put-at m.standing id (Some (partition_of p.root (number.older ++ (standing s.object now c ∷ number.newer)))) in
            elim (decided w.version j) [
              | inl same ↦
                  let version = one-at p.versions j a.version s (subst (λ n. IsVersionAt p.versions n a.version) same at_p) number in record {
                    partition = partition_of p.root (number.older ++ (standing s.object now c ∷ number.newer));
                    version = standing s.object now c;
                    chain = chain;
                    number = record { older = number.older; newer = number.newer; split = refl; number = number.number ∙ sym same };
                    object = rows w r on here same (subst (λ t. IsOfVersion old t w.position r) version a.object);
                  }
              | inr ne ↦ record {
                partition = partition_of p.root (number.older ++ (standing s.object now c ∷ number.newer));
                version = a.version;
                chain = chain;
                number = beside-at number.older number.newer s (standing s.object now c) w.version a.version at_p.older at_p.newer (sym number.split ∙ at_p.split) at_p.number (λ e. ne (e ∙ number.number));
                object = stays a.version (λ e. ne (same_place e).1) a_stands w.position r a.object;
              }
            ]

  module _ (kept_but : IsKeptBut s.object old new) (is : IsVersionOf new s.object now c)
      (rows : (w : Member) (r : Ref) → Contains m.recency w → w.chain ≡ id → w.version ≡ j → IsOfVersion old s w.position r → IsOfVersion new (standing s.object now c) w.position r) where
    -- all is held as before, with that version in its place
    pub held-changed : IsSummed old → IsWell new → IsSummed new → IsWeighed old new s.version c → HoldMemory slots new registry counts (version_changed id j (standing s.object now c) new m)
    held-changed summed well summed_new weigh = record {
      well = well;
      region = refl;
      kept = subst (λ ps. AreKept registry.uses ps (on_chain id (on_shown (on_version_of j (λ v. c))) m.chains)) (sym standing-is)
          (subst (AreKept registry.uses (put_at_number id (Some (partition_of p.root (number.older ++ (standing s.object now c ∷ number.newer)))) m.standing)) (sym chains-are) kept_after);
      listed = h.listed;
      stands = subst (λ st. AreStanding slots new (present st) h.listed) (sym standing-is)
          (subst (λ ps. AreStanding slots new ps h.listed) (sym (place.with_one (partition_of p.root (number.older ++ (standing s.object now c ∷ number.newer)))))
          (stands-after kept_but is summed well summed_new weigh));
      recency = subst (λ st. StandAt new st h.listed m.recency) (sym standing-is)
          (stand-each old new m.standing (put_at_number id (Some (partition_of p.root (number.older ++ (standing s.object now c ∷ number.newer)))) m.standing) h.listed m.recency (λ r w in_refs on a. object_after (Contains m.recency) kept_but is rows r w on a) h.recency);
      dropped = h.dropped;
      counted = h.counted;
      roots = ap (λ (k : SlotCounts). k.there) kept_but.slots ∙ h.roots ∙ ap (λ n. 2 + n) (sym (length-same m.chains id (on_shown (on_version_of j (λ v. c)))));
    }
