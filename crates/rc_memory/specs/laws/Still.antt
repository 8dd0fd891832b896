-- Where objects stand after one version of a chain changed, and after the recency list did; and that a changed version is one.
use Rattle.std.proofs.Common.{◌≡◌, ◌⊎◌, ℕ, List, ◌∷◌, ◌++◌, Option, Some, None, length, inl, inr, refl, sym, ap, ◌∙◌, subst, map, slice_index_or}
use Rattle.std.specs.Prelude.{IsSomeAnd}
use Rattle.std.specs.Option.{option_map}
use Rattle.lsa_pool.specs.laws.Usages.{decided}
use Rattle.rc_position.specs.declared.positions.Pos.{Pos}
use Rattle.lsa_store.specs.declared.place.Ref.{Ref}
use Rattle.lsa_region.specs.declared.end.End.{End}
use Rattle.lsa_region.specs.Region.{View, link_of, IsWell, SameObjects}
use Rattle.rc_partition.specs.List.{List as Slots}
use Rattle.rc_partition.specs.Recency.{IsElsewhere}
use Rattle.rc_registry.specs.Steps.{on_version}
use Rattle.rc_registry.specs.Version.{Version}
use Rattle.rc_partition.specs.Versions.{IsKeptBeside, IsKeptBut, IsVersionOf, MayChange}
use Rattle.rc_partition.specs.Marked.{marked-itself, marked-objects, marked-then}
use Rattle.rc_partition.specs.Partitions.{PartitionEntry, StandingVersion, partition_of, standing}
use Rattle.rc_registry.specs.Registry.{Registry, put_at_number}
use Rattle.rc_memory.specs.declared.counts.Counts.{Counts}
use Rattle.rc_memory.specs.Memory.{Member, Memory, IsObjectAt, IsOfVersion, IsVersionAt, listed_as, on_chain, on_shown, on_version_of, version_changed}
use Rattle.rc_memory.specs.Changes.{IsUnmoved, IsVersionChanged, Nowhere, StandStill, member_at}
use Rattle.rc_memory.specs.Kept.{HoldMemory}
use Rattle.rc_memory.specs.laws.At.{number-mapped}
use Rattle.rc_memory.specs.laws.Changed.{object_after, standing-is, user}
use Rattle.rc_memory.specs.laws.Listed.{object_kept, one-at}
use Rattle.rc_memory.specs.laws.Put.{beside-at, put-at, put-beside}
use Rattle.rc_memory.specs.laws.Recent.{on-is}

-- ---- one change after another

pub still-itself : (these : Member → Type 0) (m : Memory) → StandStill these m m
still-itself these m = record { versions = λ id j n is. is; objects = λ r w off at. at }

module _ (these those : Member → Type 0) where
  pub still-wider : (m n : Memory) → ((w : Member) → these w → those w) → StandStill these m n → StandStill those m n
  still-wider m n wide h = record { versions = h.versions; objects = λ r w off at. h.objects r w (λ on. off (wide w on)) at }

  pub still-both : (m n o : Memory) → StandStill these m n → StandStill those n o → StandStill (λ w. these w ⊎ those w) m o
  still-both m n o a b = record {
    versions = λ id j r is. b.versions id j r (a.versions id j r is);
    objects = λ r w off at. b.objects r w (λ on. off (inr on)) (a.objects r w (λ on. off (inl on)) at);
  }

pub still-then : (these : Member → Type 0) (m n o : Memory) → StandStill these m n → StandStill these n o → StandStill these m o
still-then these m n o a b = record { versions = λ id j r is. b.versions id j r (a.versions id j r is); objects = λ r w off at. b.objects r w off (a.objects r w off at) }

pub unmoved-itself : (v : View) → IsUnmoved v v
unmoved-itself v = record { budget = refl; moved = refl; compacted = refl; epoch = marked-itself v }

pub unmoved-then : (old mid new : View) → IsUnmoved old mid → IsUnmoved mid new → IsUnmoved old new
unmoved-then old mid new a b = record { budget = b.budget ∙ a.budget; moved = b.moved ∙ a.moved; compacted = b.compacted ∙ a.compacted; epoch = marked-then old mid new a.epoch b.epoch }

-- a version changed, and links alone did
pub unmoved-kept : (these : Ref → Type 0) (n : Ref) (old new : View) → IsKeptBeside these n old new → IsUnmoved old new
unmoved-kept these n old new k = record { budget = k.budget; moved = k.moved; compacted = k.compacted; epoch = k.epoch }

pub unmoved-objects : (old new : View) → SameObjects old new → IsUnmoved old new
unmoved-objects old new same = record { budget = ap length same.usages; moved = same.moved; compacted = same.compacted; epoch = marked-objects old new same }

-- ---- the list changed

module _ (slots : Slots) (old new : View) (registry : Registry) (counts : Counts) (m : Memory) (h : HoldMemory slots old registry counts m)
    (elsewhere : (e : End) → IsElsewhere slots old e → link_of new e ≡ link_of old e) (objects : SameObjects old new) (well : IsWell new) (list : List Member) where
  pub still-listed : StandStill Nowhere m (listed_as list new m)
  still-listed = record {
    versions = λ id j n is. is;
    objects = λ r w off at. object_kept slots old new registry counts m h elsewhere objects well r w (subst (λ v. IsObjectAt v m.standing r w) h.region at);
  }

  pub unmoved-listed : IsUnmoved m.region new
  unmoved-listed = subst (λ v. IsUnmoved v new) (sym h.region) (unmoved-objects old new objects)

module _ (id j : ℕ) (f : Version → Version) (these : Member → Type 0) (m n : Memory) (list : List Member) (region : View) where
  -- a version changed before the list did, and after it
  pub changed-listed : IsVersionChanged id j f these m n → StandStill Nowhere n (listed_as list region n) → IsUnmoved n.region region → IsVersionChanged id j f these m (listed_as list region n)
  changed-listed h still unmoved = record {
    chains = h.chains;
    dropped = h.dropped;
    counts = h.counts;
    still = still-then these m n (listed_as list region n) h.still (still-wider Nowhere these n (listed_as list region n) (λ w on. absurd on) still);
    region = unmoved-then m.region n.region region h.region unmoved;
  }

  pub listed-changed : StandStill Nowhere m (listed_as list region m) → IsUnmoved m.region region → IsVersionChanged id j f these (listed_as list region m) n → IsVersionChanged id j f these m n
  listed-changed still unmoved h = record {
    chains = h.chains;
    dropped = h.dropped;
    counts = h.counts;
    still = still-then these m (listed_as list region m) n (still-wider Nowhere these m (listed_as list region m) (λ w on. absurd on) still) h.still;
    region = unmoved-then m.region region n.region unmoved h.region;
  }

-- ---- a version changed

module _ (slots : Slots) (old new : View) (registry : Registry) (counts : Counts) (m : Memory) (h : HoldMemory slots old registry counts m)
    (id j : ℕ) (p : PartitionEntry) (s : StandingVersion) (there : slice_index_or m.standing id None ≡ Some p) (number : IsVersionAt p.versions j s) (now : List Ref) (c : Version) where
  same_version : (k : ℕ) (n : Ref) → (t : StandingVersion) × IsVersionAt p.versions k t × (t.object ≡ n)
      → (t : StandingVersion) × IsVersionAt (number.older ++ (standing s.object now c ∷ number.newer)) k t × (t.object ≡ n)
  same_version k n is = elim (decided k j) [
    | inl same ↦
        let version = one-at p.versions j is.0 s (subst (λ i. IsVersionAt p.versions i is.0) same is.1) number in
        (standing s.object now c, record { older = number.older; newer = number.newer; split = refl; number = number.number ∙ sym same }, ap (λ (t : StandingVersion). t.object) (sym version) ∙ is.2)
    | inr ne ↦ let at = is.1 in (is.0, beside-at number.older number.newer s (standing s.object now c) k is.0 at.older at.newer (sym number.split ∙ at.split) at.number (λ e. ne (e ∙ number.number)), is.2)
  ]

  still_versions : (i k : ℕ) (n : Ref) → IsSomeAnd (slice_index_or m.standing i None) (λ q. (t : StandingVersion) × IsVersionAt q.versions k t × (t.object ≡ n))
      → IsSomeAnd (slice_index_or (put_at_number id (Some (partition_of p.root (number.older ++ (standing s.object now c ∷ number.newer)))) m.standing) i None) (λ q. (t : StandingVersion) × IsVersionAt q.versions k t × (t.object ≡ n))
  still_versions i k n is = elim (decided i id) [
    | inl here ↦ subst (λ (o : Option PartitionEntry). IsSomeAnd o (λ q. (t : StandingVersion) × IsVersionAt q.versions k t × (t.object ≡ n)))
        (sym (ap (λ x. slice_index_or (put_at_number id (Some (partition_of p.root (number.older ++ (standing s.object now c ∷ number.newer)))) m.standing) x None) here ∙ put-at m.standing id (Some (partition_of p.root (number.older ++ (standing s.object now c ∷ number.newer))))))
        (same_version k n (subst (λ (o : Option PartitionEntry). IsSomeAnd o (λ q. (t : StandingVersion) × IsVersionAt q.versions k t × (t.object ≡ n))) (ap (λ x. slice_index_or m.standing x None) here ∙ there) is))
    | inr ne ↦ subst (λ (o : Option PartitionEntry). IsSomeAnd o (λ q. (t : StandingVersion) × IsVersionAt q.versions k t × (t.object ≡ n)))
        (sym (put-beside m.standing id (Some (partition_of p.root (number.older ++ (standing s.object now c ∷ number.newer)))) i ne)) is
  ]

  -- what is done to the version is done to it in the chain
  pub changed-chains : (f : Version → Version) → c ≡ f s.version → on_chain id (on_shown (on_version_of j (λ v. c))) m.chains ≡ on_chain id (on_shown (on_version_of j f)) m.chains
  changed-chains f is =
      let u = user slots old new registry counts m h id j p s there number now c in let versions = map (λ (t : StandingVersion). t.version) p.versions in
      let at = number-mapped (λ (t : StandingVersion). t.version) p.versions j s number in
      let same : on_version j (λ v. c) versions ≡ on_version j f versions = on-is versions j s.version (λ v. c) at ∙ ap (λ v. at.older ++ (v ∷ at.newer)) is ∙ sym (on-is versions j s.version f at) in
      ap (λ o. put_at_number id (option_map (on_shown (on_version_of j (λ v. c))) o) m.chains) u.chain
      ∙ ap (λ (vs : List Version). put_at_number id (Some (record { chain = record { kind = u.used.kind; versions = vs; attached = u.used.attached; updating = u.used.updating; pins = u.used.pins }; passed = u.used.passed })) m.chains) same
      ∙ sym (ap (λ o. put_at_number id (option_map (on_shown (on_version_of j f)) o) m.chains) u.chain)

  module _ (kept_but : IsKeptBut s.object old new) (is : IsVersionOf new s.object now c) where
    -- where the objects of that version stand where they stood, but at some places, so do those of all chains
    pub still-changed : (these : Member → Type 0) → ((at : Option Pos) (r : Ref) → (these (member_at id j at) → ⊥) → IsOfVersion old s at r → IsOfVersion new (standing s.object now c) at r)
        → StandStill these m (version_changed id j (standing s.object now c) new m)
    still-changed these rows = record {
      versions = λ i k n at. subst (λ (st : List (Option PartitionEntry)). IsSomeAnd (slice_index_or st i None) (λ q. (t : StandingVersion) × IsVersionAt q.versions k t × (t.object ≡ n)))
          (sym (standing-is slots old new registry counts m h id j p s there number now c)) (still_versions i k n at);
      objects = λ r w off at. subst (λ st. IsObjectAt new st r w) (sym (standing-is slots old new registry counts m h id j p s there number now c))
          (object_after slots old new registry counts m h id j p s there number now c (λ x. these x → ⊥) kept_but is
          (λ x q beside chain version a. rows x.position q (λ on. beside (subst these (λ i. record { chain = sym chain i; version = sym version i; position = x.position }) on)) a) r w off
          (subst (λ v. IsObjectAt v m.standing r w) h.region at));
    }

    -- so that version alone is another one
    pub is-changed : (f : Version → Version) (these : Member → Type 0) → c ≡ f s.version → ((at : Option Pos) (r : Ref) → (these (member_at id j at) → ⊥) → IsOfVersion old s at r → IsOfVersion new (standing s.object now c) at r)
        → IsVersionChanged id j f these m (version_changed id j (standing s.object now c) new m)
    is-changed f these does rows = record {
      chains = changed-chains f does;
      dropped = refl;
      counts = refl;
      still = still-changed these rows;
      region = subst (λ v. IsUnmoved v new) (sym h.region) (unmoved-kept (MayChange old s.object) s.object old new kept_but);
    }
