-- A version of a chain as it stands in the region, and what of it is listed.
use Rattle.std.proofs.Common.{◌≡◌, ◌<◌, ℕ, Option, Some, None, refl, sym, ap, ◌∙◌, subst, length, arith}
use Rattle.std.specs.Prelude.{Contains, IsSome, IsSomeAnd}
use Rattle.lsa_store.specs.declared.place.Ref.{Ref}
use Rattle.lsa_region.specs.Region.{View}
use Rattle.rc_core.specs.Version.{Version}
use Rattle.rc_version.specs.Versions.{IsStaticRowFound, IsStaticsOf, IsVersionOf}
use Rattle.rc_memory.specs.Partitions.{standing}
use Rattle.rc_memory.specs.Changes.{OfVersion, member_at}
use Rattle.rc_memory.specs.Memory.{HasChain, HasVersion, IsMemberObject, IsVersionAt, IsVersionObject, KeptChain, Member, Memory, chain_at, listed_as}
use Rattle.rc_memory.specs.Recency.{HasObject, IsRecency, MayBeListed}
use Rattle.rc_memory.specs.laws.At.{number-there}
use Rattle.rc_memory.specs.laws.Listed.{one-at}
use Rattle.rc_recency.specs.laws.Held.{IsStandingAs}

-- each version stands in the region with the objects of its places
abbrev pub PlacesStand : Memory → Type 0
PlacesStand m = (id j : ℕ) (n : Ref) → IsVersionObject m id j n → OfVersion m id j (λ k v. (s : IsStandingAs m.standing id j v n) × IsVersionOf m.region n s.entries v)

-- the version of a number, as it stands
pub record IsPlaced (m : Memory) (id number : ℕ) (n : Ref) : Type 0 where
  pub kept : KeptChain
  pub version : Version
  pub there : chain_at m id ≡ Some kept
  pub at : IsVersionAt kept.chain.versions number version
  pub standing : IsStandingAs m.standing id number version n
  pub whole : IsVersionOf m.region n standing.entries version

version-of : (m : Memory) (id n : ℕ) → HasVersion m id n → (k : KeptChain) × (v : Version) × (chain_at m id ≡ Some k) × IsVersionAt k.chain.versions n v
version-of m id n has = at_option (chain_at m id) has
  where
    at_option : (o : Option KeptChain) → IsSomeAnd o (λ k. n < length k.chain.versions) → (k : KeptChain) × (v : Version) × (o ≡ Some k) × IsVersionAt k.chain.versions n v
    at_option None has = absurd has
    at_option (Some k) has = let v = number-there k.chain.versions n has in (k, v.0, refl, v.1)

pub placed : (m : Memory) (id number : ℕ) (n : Ref) → PlacesStand m → HasVersion m id number → IsVersionObject m id number n → IsPlaced m id number n
placed m id number n stand has object =
    let a = version-of m id number has in let s = stand id number n object a.0 a.1 a.2 a.3 in
    record { kept = a.0; version = a.1; there = a.2; at = a.3; standing = s.0; whole = s.1 }

module _ (m : Memory) (id number : ℕ) (n : Ref) (p : IsPlaced m id number n) where
  -- what a version has at a place that is listed
  pub listed-has : IsRecency m → (w : Member) → Contains m.recency w → w.chain ≡ id → w.version ≡ number → HasObject p.version w.position
  listed-has rule w on of same =
      let may : MayBeListed p.kept.chain w.version w.position = subst (λ (o : Option KeptChain). IsSomeAnd o (λ k. MayBeListed k.chain w.version w.position)) (ap (chain_at m) of ∙ p.there) (rule.members w on) in
      let v : may.version ≡ p.version = one-at p.kept.chain.versions number may.version p.version (subst (λ j. IsVersionAt p.kept.chain.versions j may.version) same may.number) p.at in
      subst (λ v. HasObject v w.position) v may.object

  -- the static row's object
  pub static-member : (r : Ref) → IsStaticsOf m.region n r → IsMemberObject m r (member_at id number None)
  static-member r is = record { partition = p.standing.partition; version = standing n p.standing.entries p.version; chain = p.standing.there; number = p.standing.number; object = is }

-- ---- the static row

pub unfound-none : (v : View) (c : Version) (o : Option Ref) → IsStaticRowFound v c o → ((r : Ref) → o ≡ Some r → ⊥) → c.statics ≡ None
unfound-none v c None h none = h
unfound-none v c (Some r) h none = absurd (none r refl)

unset : {X : Type 0} (o : Option X) → o ≡ None → IsSome o → ⊥
unset None e on = cc
unset (Some x) e on = cc

-- where there is none
pub none-static : (m : Memory) (id number : ℕ) (n : Ref) (p : IsPlaced m id number n) → IsRecency m → p.version.statics ≡ None → (w : Member) → Contains m.recency w → w ≡ member_at id number None → ⊥
none-static m id number n p rule none w on same =
    unset p.version.statics none (subst (HasObject p.version) (ap (λ (x : Member). x.position) same) (listed-has m id number n p rule w on (ap (λ (x : Member). x.chain) same) (ap (λ (x : Member). x.version) same)))

-- ---- the versions of a chain

some-of : (o : Option KeptChain) → IsSome o → (k : KeptChain) × (o ≡ Some k)
some-of None on = absurd (cc)
some-of (Some k) on = (k, refl)

-- while the list alone changes it has the versions that it had
pub has-number : (first now : Memory) (id number count : ℕ) → now ≡ listed_as now.recency now.region first → HasChain first id → ((k : KeptChain) → chain_at first id ≡ Some k → count ≡ length k.chain.versions) → number < count → HasVersion now id number
has-number first now id number count same has long low =
    let k = some-of (chain_at first id) has in let all = long k.0 k.1 in
    subst (λ (m : Memory). HasVersion m id number) (sym same) (subst (λ (o : Option KeptChain). IsSomeAnd o (λ q. number < length q.chain.versions)) (sym k.1) (omega (arith, low, all)))
