-- A memory after a version of a chain changed: what is held, and where objects stand.
use Rattle.std.proofs.Common.{◌≡◌, ℕ, List, ◌∷◌, ◌++◌, Option, Some, None, refl, sym, ap, ◌∙◌, subst, slice_index_or}
use Rattle.std.specs.Prelude.{Contains}
use Rattle.std.specs.Option.{option_map}
use Rattle.rc_position.specs.declared.positions.Pos.{Pos}
use Rattle.lsa_store.specs.declared.place.Ref.{Ref}
use Rattle.lsa_region.specs.Region.{View, IsSummed, IsWell}
use Rattle.lsa_list.specs.declared.recency.List.{List as Slots}
use Rattle.rc_core.specs.Version.{Version}
use Rattle.rc_version.specs.Versions.{IsKeptBut, IsVersionOf, IsWeighed}
use Rattle.rc_memory.specs.Partitions.{StandingVersion, partition_of, standing}
use Rattle.rc_registry.specs.Registry.{Registry, put_at_number}
use Rattle.rc_memory.specs.declared.counts.Counts.{Counts}
use Rattle.rc_memory.specs.Memory.{KeptChain, Member, Memory, IsMemberObject, IsOfVersion, on_chain, on_shown, on_version_of, version_changed}
use Rattle.rc_memory.specs.Changes.{IsVersionChanged, Nowhere, member_at}
use Rattle.rc_memory.specs.Kept.{HoldMemory}
use Rattle.rc_memory.specs.laws.Changed.{held-changed, standing-is}
use Rattle.rc_memory.specs.laws.Put.{put-at, put-same}
use Rattle.rc_memory.specs.laws.Recent.{on-is}
use Rattle.rc_memory.specs.laws.Still.{is-changed, still-itself, unmoved-itself}
use Rattle.rc_recency.specs.Holding.{IsHeldVersion}
use Rattle.rc_recency.specs.laws.Held.{standing-as, IsStandingAs}

module _ (slots : Slots) (v : View) (registry : Registry) (counts : Counts) (m : Memory) (id j : ℕ) (k : KeptChain) (c : Version) (n : Ref) (h : IsHeldVersion slots v registry counts m id j k c n) (f : Version → Version) where
  -- where the version is what it was nothing changed
  unchanged : f c ≡ c → m.chains ≡ on_chain id (on_shown (on_version_of j f)) m.chains
  unchanged same = sym (put-same m.chains id k h.chain)
      ∙ ap (λ vs. put_at_number id (Some (record { chain = record { kind = k.chain.kind; versions = vs; attached = k.chain.attached; updating = k.chain.updating; pins = k.chain.pins }; passed = k.passed })) m.chains)
      (h.number.split ∙ ap (λ d. h.number.older ++ (d ∷ h.number.newer)) (sym same) ∙ sym (on-is k.chain.versions j c f h.number))
      ∙ ap (λ o. put_at_number id (option_map (on_shown (on_version_of j f)) o) m.chains) (sym h.chain)

  pub version-unchanged : f c ≡ c → IsVersionChanged id j f Nowhere m m
  version-unchanged same = record { chains = unchanged same; dropped = refl; counts = refl; still = still-itself Nowhere m; region = unmoved-itself m.region }

module _ (slots : Slots) (old new : View) (registry : Registry) (counts : Counts) (m : Memory) (id j : ℕ) (k : KeptChain) (c : Version) (n : Ref) (h : IsHeldVersion slots old registry counts m id j k c n)
    (f : Version → Version) (now : List Ref) (kept : IsKeptBut n old new) (is : IsVersionOf new n now (f c)) (summed : IsSummed old) (well : IsWell new) (summed_new : IsSummed new) (weigh : IsWeighed old new c (f c)) (these : Member → Type 0)
    (stay : (at : Option Pos) (r : Ref) → (these (member_at id j at) → ⊥) → IsOfVersion old (standing n (standing-as slots old registry counts m id j k c n h).entries c) at r → IsOfVersion new (standing n now (f c)) at r)
    (free : (at : Option Pos) → Contains m.recency (member_at id j at) → these (member_at id j at) → ⊥) where
  abbrev s : IsStandingAs m.standing id j c n
  s = standing-as slots old registry counts m id j k c n h

  abbrev before : StandingVersion
  before = standing n s.entries c

  abbrev pub later : Memory
  later = version_changed id j (standing n now (f c)) new m

  place-is : (w : Member) → w.chain ≡ id → w.version ≡ j → w ≡ member_at id j w.position
  place-is w a b = λ i. record { chain = a i; version = b i; position = w.position }

  pub held-later : HoldMemory slots new registry counts later
  held-later = held-changed slots old new registry counts m h.held id j s.partition before s.there s.number now (f c) kept is
      (λ w r on a b o. stay w.position r (free w.position (subst (Contains m.recency) (place-is w a b) on)) o) summed well summed_new weigh

  pub changed-later : IsVersionChanged id j f these m later
  changed-later = is-changed slots old new registry counts m h.held id j s.partition before s.there s.number now (f c) kept is f these refl stay

  -- an object of the version at a place
  pub member-later : (at : Option Pos) (r : Ref) → IsOfVersion new (standing n now (f c)) at r → IsMemberObject later r (member_at id j at)
  member-later at r o =
      let p = partition_of s.partition.root (s.number.older ++ (standing n now (f c) ∷ s.number.newer)) in record {
        partition = p;
        version = standing n now (f c);
        chain = ap (λ st. slice_index_or st id None) (standing-is slots old new registry counts m h.held id j s.partition before s.there s.number now (f c)) ∙ put-at m.standing id (Some p);
        number = record { older = s.number.older; newer = s.number.newer; split = refl; number = s.number.number };
        object = o;
      }
