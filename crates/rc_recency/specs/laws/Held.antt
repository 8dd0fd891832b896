-- A version of a chain by its object: how it stands in the region, and which objects stand at its places.
use Rattle.std.proofs.Common.{◌≡◌, ℕ, List, Option, Some, None, refl, sym, ap, ◌∙◌, subst, map, slice_index_or}
use Rattle.std.specs.Prelude.{Contains, IsSomeAnd}
use Rattle.rc_position.specs.declared.positions.Pos.{Pos}
use Rattle.lsa_store.specs.declared.place.Ref.{Ref}
use Rattle.lsa_region.specs.Region.{View}
use Rattle.lsa_list.specs.declared.recency.List.{List as Slots}
use Rattle.rc_core.specs.Version.{Version}
use Rattle.rc_version.specs.Versions.{IsEntryFound, IsStaticsOf, IsVersionOf}
use Rattle.rc_memory.specs.Partitions.{PartitionEntry, StandingVersion, standing}
use Rattle.rc_registry.specs.Registry.{Registry}
use Rattle.rc_memory.specs.declared.counts.Counts.{Counts}
use Rattle.rc_memory.specs.Memory.{KeptChain, Memory, IsMemberObject, IsObjectAt, IsOfVersion, IsVersionAt}
use Rattle.rc_memory.specs.Changes.{member_at}
use Rattle.rc_memory.specs.Kept.{HoldMemory, chain_of_use}
use Rattle.rc_memory.specs.laws.At.{kept-at, number-mapped}
use Rattle.rc_memory.specs.laws.Listed.{one-at, stand-object}
use Rattle.rc_memory.specs.laws.Places.{no_some, same_some, version-there}
use Rattle.rc_memory.specs.laws.Put.{used-at}
use Rattle.rc_recency.specs.Holding.{IsHeldVersion}
use Rattle.rc_recency.specs.calls.Holding.{IsFoundAt}

-- the version of a number of a chain as it stands in the region, whose object is this one
pub record IsStandingAs (st : List (Option PartitionEntry)) (id j : ℕ) (c : Version) (n : Ref) : Type 0 where
  pub partition : PartitionEntry
  pub entries : List Ref
  pub there : slice_index_or st id None ≡ Some partition
  pub number : IsVersionAt partition.versions j (standing n entries c)

module _ (slots : Slots) (v : View) (registry : Registry) (counts : Counts) (m : Memory) (id j : ℕ) (k : KeptChain) (c : Version) (n : Ref) (h : IsHeldVersion slots v registry counts m id j k c n) where
  versioned : (o : Option PartitionEntry) → IsSomeAnd o (λ p. (s : StandingVersion) × IsVersionAt p.versions j s × (s.object ≡ n)) → (p : PartitionEntry) × (s : StandingVersion) × (o ≡ Some p) × IsVersionAt p.versions j s × (s.object ≡ n)
  versioned None is = absurd is
  versioned (Some p) is = (p, is.0, refl, is.1, is.2)

  pub standing-as : IsStandingAs m.standing id j c n
  standing-as =
      let a = versioned (slice_index_or m.standing id None) h.object in let s = a.1 in let kept = kept-at registry.uses m.standing m.chains id k h.held.kept h.chain in
      let same = same_some a.0 kept.partition (sym a.2 ∙ kept.stands) in
      let versions : k.chain.versions ≡ map (λ (x : StandingVersion). x.version) a.0.versions = ap (λ (x : KeptChain). x.chain.versions) kept.same ∙ ap (λ (q : PartitionEntry). map (λ (x : StandingVersion). x.version) q.versions) (sym same) in
      let value = one-at k.chain.versions j s.version c (subst (λ vs. IsVersionAt vs j s.version) (sym versions) (number-mapped (λ (x : StandingVersion). x.version) a.0.versions j s a.3)) h.number in
      record { partition = a.0; entries = s.entries; there = a.2; number = subst (IsVersionAt a.0.versions j) (λ i. standing (a.4 i) s.entries (value i)) a.3 }

  pub stands : IsVersionOf v n standing-as.entries c
  stands = version-there slots v h.held.well m.standing h.held.listed h.held.stands id j standing-as.partition (standing n standing-as.entries c) standing-as.there standing-as.number

  -- an object at a place of the version is one of it, and stands nowhere else
  pub own-object : (at : Option Pos) (r : Ref) → IsMemberObject m r (member_at id j at) → IsOfVersion v (standing n standing-as.entries c) at r
  own-object at r a =
      let s = standing-as in let same = same_some a.partition s.partition (sym a.chain ∙ s.there) in
      let version = one-at s.partition.versions j a.version (standing n s.entries c) (subst (λ (q : PartitionEntry). IsVersionAt q.versions j a.version) same a.number) s.number in
      subst (λ t. IsOfVersion v t at r) version (subst (λ z. IsOfVersion z a.version at r) h.held.region a.object)

  pub own-member : (at : Option Pos) (r : Ref) → IsOfVersion v (standing n standing-as.entries c) at r → IsMemberObject m r (member_at id j at)
  own-member at r o = let s = standing-as in record { partition = s.partition; version = standing n s.entries c; chain = s.there; number = s.number; object = subst (λ z. IsOfVersion z (standing n s.entries c) at r) (sym h.held.region) o }

  -- a listed place has an object
  pub listed-there : (at : Option Pos) → Contains m.recency (member_at id j at) → (r : Ref) × IsOfVersion v (standing n standing-as.entries c) at r
  listed-there at on =
      let k = stand-object slots v h.held.well m.standing h.held.listed h.held.stands h.held.listed m.recency (member_at id j at) h.held.recency on in
      (k.0, own-object at k.0 (subst (λ z. IsObjectAt z m.standing k.0 (member_at id j at)) (sym h.held.region) k.2))

  -- what is found in the version is found at the place
  pub entry-found : (x : Pos) (o : Option Ref) → IsEntryFound v standing-as.entries c x o → IsFoundAt m (member_at id j (Some x)) o
  entry-found x None f = λ on. let a = listed-there (Some x) on in f.0 a.0 a.1.0 a.1.1
  entry-found x (Some r) f = own-member (Some x) r (f.0, f.1)

  pub static-found : (o : Option Ref) → ((s : Ref) → (o ≡ Some s → IsStaticsOf v n s) × (IsStaticsOf v n s → o ≡ Some s)) → IsFoundAt m (member_at id j None) o
  static-found None f = λ on. let a = listed-there None on in no_some a.0 ((f a.0).1 a.1)
  static-found (Some r) f = own-member None r ((f r).0 refl)

module _ (slots : Slots) (v : View) (registry : Registry) (counts : Counts) (m : Memory) (h : HoldMemory slots v registry counts m) (id j : ℕ) (at : Option Pos) (e : Ref) (a : IsMemberObject m e (member_at id j at)) where
  found_at : (o : Option PartitionEntry) (p : PartitionEntry) (s : StandingVersion) → o ≡ Some p → IsVersionAt p.versions j s → IsSomeAnd o (λ q. (t : StandingVersion) × IsVersionAt q.versions j t × (t.object ≡ s.object))
  found_at o p s is number = subst (λ (x : Option PartitionEntry). IsSomeAnd x (λ q. (t : StandingVersion) × IsVersionAt q.versions j t × (t.object ≡ s.object))) (sym is) (s, number, refl)

  -- an object at a place is of a version of a chain
  pub version-of-member : (k : KeptChain) × IsHeldVersion slots v registry counts m id j k a.version.version a.version.object
  version-of-member =
      let user = used-at registry.uses m.standing m.chains id a.partition h.kept a.chain in (
        chain_of_use user.used a.partition,
        record {
          held = h;
          chain = user.chain;
          number = number-mapped (λ (x : StandingVersion). x.version) a.partition.versions j a.version a.number;
          object = found_at (slice_index_or m.standing id None) a.partition a.version a.chain a.number;
        },
      )
