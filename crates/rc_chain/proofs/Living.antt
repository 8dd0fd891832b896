-- Where objects stand as chains come, change and go; and what becomes of the memory then.
use Rattle.std.proofs.Common.{◌≡◌, ℕ, true, false, List, [], ◌∷◌, ◌++◌, Option, Some, None, IsSome, is_some, refl, sym, ap, ◌∙◌, subst, slice_index_or, arith}
use Rattle.std.specs.Prelude.{Contains, IsSomeAnd}
use Rattle.std.proofs.lemmas.List.{append-nil}
use Rattle.rc_position.specs.declared.positions.Pos.{Pos}
use Rattle.lsa_store.specs.declared.place.Ref.{Ref}
use Rattle.lsa_region.specs.declared.end.End.{End}
use Rattle.lsa_region.specs.declared.end.End.TheVariants.{Obj, Slot}
use Rattle.lsa_region.specs.declared.end.Root.{Root}
use Rattle.lsa_region.specs.Region.{View, body, link_of, IsEnd, IsRootAdded, IsRootDropped, IsWell, SameButRoots}
use Rattle.lsa_list.specs.declared.recency.List.{List as Slots}
use Rattle.lsa_tree.specs.laws.Trees.{stands-same}
use Rattle.rc_core.specs.Version.{Version}
use Rattle.rc_version.specs.Versions.{IsVersionOf}
use Rattle.rc_memory.specs.Partitions.{AreStanding, PartitionEntry, StandingVersion, partition_of}
use Rattle.rc_memory.specs.Lists.{elem-here}
use Rattle.rc_reading.specs.Roots.{stands-with_empty, stands-without_empty}
use Rattle.rc_registry.specs.declared.uses.Use.{Use}
use Rattle.rc_registry.specs.Registry.{Registry, HasRoot, use_at}
use Rattle.rc_memory.specs.declared.counts.Counts.{Counts}
use Rattle.rc_core.specs.Steps.{pin_at}
use Rattle.rc_memory.specs.Memory.{KeptChain, Member, Memory, HasPin, IsMemberObject, IsObjectAt, IsOfVersion, IsVersionAt, chain_at, listed_as}
use Rattle.rc_memory.specs.Kept.{HoldMemory, present}
use Rattle.rc_memory.specs.Changes.{LastIsListed, Nowhere, StandStill}
use Rattle.rc_memory.specs.laws.Changed.{of-stays}
use Rattle.rc_memory.specs.laws.Places.{no_some, version-there}
use Rattle.rc_memory.specs.laws.Standing.{stand-each}
use Rattle.rc_chain.specs.Lives.{IsEndAlone, IsSameButSlots}
use Rattle.rc_chain.proofs.Reading.{chain-stands, chain-used, some_of}
use Rattle.rc_memory.specs.laws.At.{no-use}

-- a version stands at a number of a chain
pub record IsStandingAt (m : Memory) (id j : ℕ) (s : StandingVersion) : Type 0 where
  pub partition : PartitionEntry
  pub chain : slice_index_or m.standing id None ≡ Some partition
  pub number : IsVersionAt partition.versions j s

pub versioned : (o : Option PartitionEntry) (j : ℕ) (n : Ref) → IsSomeAnd o (λ p. (s : StandingVersion) × IsVersionAt p.versions j s × (s.object ≡ n)) → (p : PartitionEntry) × (s : StandingVersion) × (o ≡ Some p) × IsVersionAt p.versions j s × (s.object ≡ n)
versioned None j n is = absurd is
versioned (Some p) j n is = (p, is.0, refl, is.1, is.2)

some-version : (o : Option PartitionEntry) (p : PartitionEntry) (j : ℕ) (n : Ref) → o ≡ Some p → (s : StandingVersion) × IsVersionAt p.versions j s × (s.object ≡ n) → IsSomeAnd o (λ q. (s : StandingVersion) × IsVersionAt q.versions j s × (s.object ≡ n))
some-version o p j n e is = subst (λ (x : Option PartitionEntry). IsSomeAnd x (λ q. (s : StandingVersion) × IsVersionAt q.versions j s × (s.object ≡ n))) (sym e) is

module _ (slots : Slots) (old new : View) (registry later : Registry) (counts counted : Counts) (m n : Memory) (h : HoldMemory slots old registry counts m) (k : HoldMemory slots new later counted n) where
  -- objects of a version that stands there afterwards, with the same static row
  pub object-stands : (r : Ref) (w x : Member) → IsMemberObject m r w → w.position ≡ x.position → ((s : StandingVersion) → IsStandingAt m w.chain w.version s → IsStandingAt n x.chain x.version s)
      → ((q : Ref) (refs : List Ref) (d : Version) → (s : StandingVersion) → IsStandingAt m w.chain w.version s → s.object ≡ q → IsVersionOf old q refs d → link_of new (Obj q 3) ≡ link_of old (Obj q 3)) → IsMemberObject n r x
  object-stands r w x at same there statics =
      let a : IsObjectAt old m.standing r w = subst (λ v. IsObjectAt v m.standing r w) h.region at in
      let was : IsStandingAt m w.chain w.version a.version = record { partition = a.partition; chain = a.chain; number = a.number } in let now = there a.version was in
      let before = version-there slots old h.well m.standing h.listed h.stands w.chain w.version a.partition a.version a.chain a.number in
      let after = version-there slots new k.well n.standing k.listed k.stands x.chain x.version now.partition a.version now.chain now.number in
      subst (λ v. IsObjectAt v n.standing r x) (sym k.region) (record {
        partition = now.partition;
        version = a.version;
        chain = now.chain;
        number = now.number;
        object = subst (λ p. IsOfVersion new a.version p r) same (of-stays old new a.version before after (statics a.version.object a.version.entries a.version.version a.version was refl before) w.position r a.object);
      })

  -- so all stand still where each version does
  pub all-stand : ((id j : ℕ) (s : StandingVersion) → IsStandingAt m id j s → IsStandingAt n id j s) → ((q : Ref) (refs : List Ref) (d : Version) → IsVersionOf old q refs d → link_of new (Obj q 3) ≡ link_of old (Obj q 3)) → StandStill Nowhere m n
  all-stand there statics = record {
    versions = λ id j q is. let a = versioned (slice_index_or m.standing id None) j q is in let now = there id j a.1 (record { partition = a.0; chain = a.2; number = a.3 }) in
        some-version (slice_index_or n.standing id None) now.partition j q now.chain (a.1, now.number, a.4);
    objects = λ r w off at. object-stands r w w at refl (λ s. there w.chain w.version s) (λ q refs d s on e is. statics q refs d is);
  }

-- ---- root slots

module _ (slots : Slots) (old : View) (registry : Registry) (counts : Counts) (m : Memory) (h : HoldMemory slots old registry counts m) where
  -- no chain stands at a root slot that was not there
  pub no-root : (mid : View) (root : Root) → IsRootAdded old mid root → (id : ℕ) → HasRoot registry root id → ⊥
  no-root mid root added id has =
      let u = found (use_at registry.uses id) has in let k = some_of (chain_at m id) (there u.0 u.1) in let a = chain-stands slots old registry counts m h id k.0 u.0 k.1 u.1 in
      added.fresh (subst (λ r. IsEnd old (Slot r)) u.2 (a.stands.entries (partition_of u.0.root a.partition.versions) (here a.front a.back (partition_of u.0.root a.partition.versions))).slot)
    where
      found : (o : Option Use) → IsSomeAnd o (λ u. u.root ≡ root) → (u : Use) × (o ≡ Some u) × (u.root ≡ root)
      found None x = absurd x
      found (Some u) x = (u, refl, x)

      there : (u : Use) → use_at registry.uses id ≡ Some u → IsSome (chain_at m id)
      there u e = none (chain_at m id) refl
        where
          none : (o : Option KeptChain) → chain_at m id ≡ o → IsSome (chain_at m id)
          none None is = absurd (no_some u (sym (no-use registry.uses m.standing m.chains id h.kept is) ∙ e))
          none (Some k) is = ap is_some is

      here : (front back : List PartitionEntry) (p : PartitionEntry) → Contains (front ++ (p ∷ back)) p
      here front back p = elem-here front back p

  module _ (mid new : View) (root : Root) (added : IsRootAdded old mid root) (first : SameButRoots old mid) (dropped : IsRootDropped mid new root) (second : SameButRoots mid new) (well : IsWell new) where
    links-same : (e : End) → link_of new e ≡ link_of old e
    links-same e = dropped.links e ∙ added.links e

    bodies-same : (r : Ref) → body new r ≡ body old r
    bodies-same r = second.bodies r ∙ first.bodies r

    of-same : (s : StandingVersion) (at : Option Pos) (r : Ref) → IsOfVersion old s at r → IsOfVersion new s at r
    of-same s None r a = links-same (Obj s.object 3) ∙ a
    of-same s (Some x) r a = (a.0, stands-same old new r x (bodies-same r) a.1)

    -- a root slot came and went, and all is held as before
    pub held-slot : HoldMemory slots new registry counts (listed_as m.recency new m)
    held-slot = record {
      well = well;
      region = refl;
      kept = h.kept;
      listed = h.listed;
      stands = subst (λ ps. AreStanding slots new ps h.listed) (append-nil (present m.standing)) (stands-without_empty slots mid new (present m.standing) [] root h.listed dropped second
          (stands-with_empty slots old mid (present m.standing) [] root h.listed added first h.well (subst (λ ps. AreStanding slots old ps h.listed) (sym (append-nil (present m.standing))) h.stands)));
      recency = stand-each old new m.standing m.standing h.listed m.recency (λ r w in_refs on a. record { partition = a.partition; version = a.version; chain = a.chain; number = a.number; object = of-same a.version w.position r a.object }) h.recency;
      roots = let up = added.there in let down = dropped.there in omega (arith, up, down, h.roots);
      dropped = h.dropped;
      counted = h.counted;
    }

    pub slot-same : SameButRoots m.region new
    slot-same = subst (λ v. SameButRoots v new) (sym h.region) (record {
      bodies = bodies-same;
      spots = λ r. second.spots r ∙ first.spots r;
      usages = second.usages ∙ first.usages;
      epoch = second.epoch ∙ first.epoch;
      moved = second.moved ∙ first.moved;
      compacted = second.compacted ∙ first.compacted;
    })

-- in a chain that is not under update there is nothing that must be listed first
pub settled-last : (m : Memory) (id : ℕ) → ((k : KeptChain) → chain_at m id ≡ Some k → k.chain.updating ≡ false) → LastIsListed id m
settled-last m id settled k j v at e under number last = absurd (false-true (sym (settled k e) ∙ under.0))
  where
    false-true : false ≡ true → ⊥
    false-true x = cc x

-- all is the same where nothing changed
pub slots-itself : (m : Memory) → IsSameButSlots m m
slots-itself m = record { same = refl; region = record { bodies = λ r. refl; spots = λ r. refl; usages = refl; epoch = refl; moved = refl; compacted = refl } }

-- the kind of a chain is that of its use
pub kind-used : (slots : Slots) (v : View) (registry : Registry) (counts : Counts) (m : Memory) (h : HoldMemory slots v registry counts m) (id : ℕ) (k : KeptChain) (u : Use) → chain_at m id ≡ Some k → use_at registry.uses id ≡ Some u → k.chain.kind ≡ u.kind
kind-used slots v registry counts m h id k u e got = ap (λ (x : KeptChain). x.chain.kind) (chain-used slots v registry counts m h id k u e got).3

-- a chain of which something holds is there
pub has-chain : (m : Memory) (id : ℕ) (P : KeptChain → Type 0) → IsSomeAnd (chain_at m id) P → IsSome (chain_at m id)
has-chain m id P h = of (chain_at m id) h
  where
    of : (o : Option KeptChain) → IsSomeAnd o P → IsSome o
    of None h = absurd h
    of (Some k) h = refl

-- the only version of a chain is its version of the number 0
pub only-version : (m : Memory) (id : ℕ) → IsSomeAnd (chain_at m id) (λ k. (v : Version) × (k.chain.versions ≡ v ∷ []) × IsEndAlone v) → IsSomeAnd (chain_at m id) (λ k. (v : Version) × IsVersionAt k.chain.versions 0 v × IsEndAlone v)
only-version m id h = of (chain_at m id) h
  where
    of : (o : Option KeptChain) → IsSomeAnd o (λ k. (v : Version) × (k.chain.versions ≡ v ∷ []) × IsEndAlone v) → IsSomeAnd o (λ k. (v : Version) × IsVersionAt k.chain.versions 0 v × IsEndAlone v)
    of None h = absurd h
    of (Some k) h = (h.0, record { older = []; newer = []; split = h.1; number = refl }, h.2)

-- a chain that a snapshot pins is there
pub pin-there : (m : Memory) (id pin : ℕ) → HasPin m id pin → IsSome (chain_at m id)
pin-there m id pin h = has-chain m id (λ k. IsSome (pin_at k.chain.pins pin)) h
