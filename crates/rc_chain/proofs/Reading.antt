-- What the fields of all chains are.
use Rattle.std.proofs.Common.{◌≡◌, ◌<◌, ℕ, zero, suc, List, [], ◌∷◌, ◌++◌, Option, Some, None, IsSome, is_some, false, inl, inr, refl, sym, ap, ◌∙◌, subst, slice_index_or, map, length, arith}
use Rattle.std.specs.Prelude.{Contains, IfNone, IfSome, IsSomeAnd}
use Rattle.std.proofs.lemmas.List.{map-append}
use Rattle.rc_position.specs.declared.positions.Pos.{Pos}
use Rattle.lsa_store.specs.declared.place.Ref.{Ref}
use Rattle.lsa_list.specs.Recency.{HasRecency, first}
use Rattle.lsa_region.specs.Region.{View}
use Rattle.lsa_list.specs.declared.recency.List.{List as Slots}
use Rattle.rc_memory.specs.Partitions.{AreStanding, IsRowOfVersion, IsRowOfAny, PartitionEntry, StandingVersion, among, partition_of}
use Rattle.rc_registry.specs.declared.uses.Use.{Use}
use Rattle.rc_registry.specs.Registry.{Registry, HasRoot, IsAfter, IsNext, IsThere, use_at}
use Rattle.rc_memory.specs.declared.counts.Counts.{Counts}
use Rattle.rc_memory.specs.Memory.{HasChain, HasVersion, IsMemberObject, IsNextChain, IsObjectAt, IsOfVersion, IsVersionAt, IsVersionObject, KeptChain, Member, Memory, chain_at}
use Rattle.rc_memory.specs.Kept.{AreKept, HasMemory, HoldMemory, IsMemory, StandAt, chain_of_use, present}
use Rattle.rc_memory.specs.laws.At.{IsKeptAt, kept-at, present-split, used-there}
use Rattle.rc_memory.specs.laws.One.{kept-is}
use Rattle.rc_memory.specs.laws.Places.{heads, no_some, present-at, same_some, tails, version-there}
use Rattle.rc_memory.specs.Apart.{row-recency}
use Rattle.rc_memory.specs.Lists.{elem-here}
use Rattle.lsa_region.specs.declared.end.Root.{Root}
use Rattle.rc_core.specs.Version.{Version}
use Rattle.rc_object.specs.declared.heads.Head.{Head}
use Rattle.rc_object.specs.Objects.{HoldsHead}
use Rattle.rc_version.specs.Versions.{version_head}

module _ (S : ℕ) (slots : Slots) (v : View) (registry : Registry) (counts : Counts) (given : HasMemory S slots v registry counts) (now : Memory) (seen : given.0 ≡ now) (m : Memory) (is : IsMemory S slots v registry counts m) where
  -- what is seen is what is kept
  pub memory-now : IsMemory S slots v registry counts now
  memory-now = subst (IsMemory S slots v registry counts) (sym (kept-is S slots v registry counts given m is.held) ∙ seen) is

module _ (slots : Slots) (v : View) (registry : Registry) (counts : Counts) (m : Memory) (h : HoldMemory slots v registry counts m) where
  pub there : (id : ℕ) → HasChain m id → IsThere registry id
  there id some = used-there registry.uses m.standing m.chains id h.kept ∙ some

  pub chain-kept : (id : ℕ) (k : KeptChain) → chain_at m id ≡ Some k → IsKeptAt registry.uses m.standing id k
  chain-kept id k e = kept-at registry.uses m.standing m.chains id k h.kept e

  -- a chain is that of its use, whichever was got
  pub chain-used : (id : ℕ) (k : KeptChain) (u : Use) → chain_at m id ≡ Some k → use_at registry.uses id ≡ Some u → (p : PartitionEntry) × (slice_index_or m.standing id None ≡ Some p) × (p.root ≡ u.root) × (k ≡ chain_of_use u p)
  chain-used id k u e got = let a = chain-kept id k e in let same = same_some a.used u (sym a.at ∙ got) in (a.partition, a.stands, a.root ∙ ap (λ (x : Use). x.root) same, a.same ∙ ap (λ x. chain_of_use x a.partition) same)

  pub record IsStanding (id : ℕ) (k : KeptChain) (u : Use) : Type 0 where
    pub partition : PartitionEntry
    pub front : List PartitionEntry
    pub back : List PartitionEntry
    pub same : k ≡ chain_of_use u partition
    pub root : partition.root ≡ u.root
    pub at : slice_index_or m.standing id None ≡ Some partition
    pub stands : AreStanding slots v (front ++ (partition_of u.root partition.versions ∷ back)) h.listed

  -- a chain that is there stands in the region, at the root slot of its use
  pub chain-stands : (id : ℕ) (k : KeptChain) (u : Use) → chain_at m id ≡ Some k → use_at registry.uses id ≡ Some u → IsStanding id k u
  chain-stands id k u e got =
      let a = chain-used id k u e got in let among = present-split m.standing id a.0 a.1 in record {
        partition = a.0;
        front = among.front;
        back = among.back;
        same = a.3;
        root = a.2;
        at = a.1;
        stands = subst (λ ps. AreStanding slots v ps h.listed) (among.split ∙ ap (λ r. among.front ++ (partition_of r a.0.versions ∷ among.back)) a.2) h.stands;
      }

pub some_of : {X : Type 0} (o : Option X) → IsSome o → (x : X) × (o ≡ Some x)
some_of None some = cc some
some_of (Some x) some = (x, refl)

pub kept-length : (k : KeptChain) (u : Use) (p : PartitionEntry) → k ≡ chain_of_use u p → length k.chain.versions ≡ length p.versions
kept-length k u p e = ap (λ (x : KeptChain). length x.chain.versions) e ∙ mapped p.versions
  where
    mapped : (ss : List StandingVersion) → length (map (λ (s : StandingVersion). s.version) ss) ≡ length ss
    mapped [] = refl
    mapped (s ∷ ss) = ap suc (mapped ss)

-- ---- numbers of versions

module _ {X : Type 0} where
  -- each number below the length is that of some version
  pub number-there : (xs : List X) (n : ℕ) → n < length xs → (x : X) × IsVersionAt xs n x
  number-there [] n h = absurd (omega (arith, h))
  number-there (x ∷ xs) zero h = (x, record { older = []; newer = xs; split = refl; number = refl })
  number-there (x ∷ xs) (suc n) h = let rest = number-there xs n (omega (arith, h)) in
      (rest.0, record { older = x ∷ rest.1.older; newer = rest.1.newer; split = ap (λ ys. x ∷ ys) rest.1.split; number = ap suc rest.1.number })

  at_number : (ls bs cs ds : List X) (x y : X) → ls ++ (x ∷ bs) ≡ cs ++ (y ∷ ds) → length ls ≡ length cs → x ≡ y
  at_number [] bs [] ds x y e n = heads x y bs ds e
  at_number [] bs (c ∷ cs) ds x y e n = absurd (omega (arith, n))
  at_number (a ∷ ls) bs [] ds x y e n = absurd (omega (arith, n))
  at_number (a ∷ ls) bs (c ∷ cs) ds x y e n = at_number ls bs cs ds x y (tails a c (ls ++ (x ∷ bs)) (cs ++ (y ∷ ds)) e) (omega (arith, n))

  -- and of one alone
  pub number-one : (xs : List X) (n : ℕ) (x y : X) → IsVersionAt xs n x → IsVersionAt xs n y → x ≡ y
  number-one xs n x y a b = at_number a.older a.newer b.older b.newer x y (sym a.split ∙ b.split) (a.number ∙ sym b.number)

pub number-mapped : {X Y : Type 0} (f : X → Y) (xs : List X) (n : ℕ) (x : X) → IsVersionAt xs n x → IsVersionAt (map f xs) n (f x)
number-mapped f xs n x h = record { older = map f h.older; newer = map f h.newer; split = ap (map f) h.split ∙ map-append f h.older (x ∷ h.newer); number = mapped f h.older ∙ h.number }
  where
    mapped : {X Y : Type 0} (f : X → Y) (ys : List X) → length (map f ys) ≡ length ys
    mapped f [] = refl
    mapped f (y ∷ ys) = ap suc (mapped f ys)

module _ (slots : Slots) (v : View) (registry : Registry) (counts : Counts) (m : Memory) (h : HoldMemory slots v registry counts m) where
  -- where a table has none there is none
  pub unused : (id : ℕ) → use_at registry.uses id ≡ None → chain_at m id ≡ None
  unused id e = none (chain_at m id) (sym (used-there registry.uses m.standing m.chains id h.kept) ∙ ap is_some e)
    where
      none : {X : Type 0} (o : Option X) → is_some o ≡ false → o ≡ None
      none None e = refl
      none (Some x) e = cc e

  pub next-chain : (after o : Option ℕ) → IfSome o (IsNext registry after) → IfSome o (IsNextChain m after)
  next-chain after None h = tt
  next-chain after (Some id) n = record { there = sym (used-there registry.uses m.standing m.chains id h.kept) ∙ n.there; behind = n.behind; least = λ i a b. unused i (n.least i a b) }

  -- a version of a number ls it stands
  pub record HasStanding (id j : ℕ) (u : Use) : Type 0 where
    pub partition : PartitionEntry
    pub version : StandingVersion
    pub front : List PartitionEntry
    pub back : List PartitionEntry
    pub at : slice_index_or m.standing id None ≡ Some partition
    pub number : IsVersionAt partition.versions j version
    pub stands : AreStanding slots v (among front u.root number.older version number.newer back) h.listed

  pub version-stands : (id number : ℕ) (u : Use) → HasVersion m id number → use_at registry.uses id ≡ Some u → HasStanding id number u
  version-stands id number u has got =
      let k = found (chain_at m id) has in let a = chain-stands slots v registry counts m h id k.0 u k.1 got in
      let at = number-there a.partition.versions number (subst (λ n. number < n) (kept-length k.0 u a.partition a.same) k.2) in record {
        partition = a.partition;
        version = at.0;
        front = a.front;
        back = a.back;
        at = a.at;
        number = at.1;
        stands = subst (λ vs. AreStanding slots v (a.front ++ (partition_of u.root vs ∷ a.back)) h.listed) at.1.split a.stands;
      }
    where
      found : (o : Option KeptChain) → IsSomeAnd o (λ k. number < length k.chain.versions) → (k : KeptChain) × (o ≡ Some k) × (number < length k.chain.versions)
      found None has = absurd has
      found (Some k) has = (k, refl, has)

  -- the least recent object and its place
  pub front-place : (o : Option Ref) → o ≡ first h.listed → IfSome o (λ r. (w : Member) × (rest : List Member) × (m.recency ≡ w ∷ rest) × IsMemberObject m r w) × IfNone o (m.recency ≡ [])
  front-place o e = subst (λ z. IfSome z (λ r. (w : Member) × (rest : List Member) × (m.recency ≡ w ∷ rest) × IsMemberObject m r w) × IfNone z (m.recency ≡ [])) (sym e) (places h.listed m.recency h.recency)
    where
      places : (refs : List Ref) (ws : List Member) → StandAt v m.standing refs ws → IfSome (first refs) (λ r. (w : Member) × (rest : List Member) × (ws ≡ w ∷ rest) × IsMemberObject m r w) × IfNone (first refs) (ws ≡ [])
      places [] [] s = (tt, refl)
      places [] (w ∷ ws) s = absurd s
      places (r ∷ refs) [] s = absurd s
      places (r ∷ refs) (w ∷ ws) s = ((w, ws, refl, subst (λ z. IsObjectAt z m.standing r w) (sym h.region) s.0), tt)

  -- an object at a place, in the region
  pub at-place : (r : Ref) (w : Member) → IsMemberObject m r w → IsObjectAt v m.standing r w
  at-place r w a = subst (λ z. IsObjectAt z m.standing r w) h.region a

row-of : (v : View) (s : StandingVersion) (p : Option Pos) (r : Ref) → IsOfVersion v s p r → IsRowOfVersion v s r
row-of v s None r h = inr h
row-of v s (Some x) r h = inl h.0

module _ (slots : Slots) (v : View) (registry : Registry) (counts : Counts) (m : Memory) (h : HoldMemory slots v registry counts m) where
  pub record HasHome (r : Ref) (w : Member) : Type 0 where
    pub used : Use
    pub partition : PartitionEntry
    pub version : StandingVersion
    pub front : List PartitionEntry
    pub back : List PartitionEntry
    pub at : use_at registry.uses w.chain ≡ Some used
    pub number : IsVersionAt partition.versions w.version version
    pub present : Contains (present m.standing) partition
    pub stands : AreStanding slots v (among front used.root number.older version number.newer back) h.listed
    pub row : IsRowOfVersion v version r

  pub home-place : (r : Ref) (w : Member) → IsMemberObject m r w → HasHome r w
  home-place r w here =
      let a = at-place slots v registry counts m h r w here in let u = used_of w.chain a.partition a.chain in let amid = present-split m.standing w.chain a.partition a.chain in record {
        used = u.0;
        partition = a.partition;
        version = a.version;
        front = amid.front;
        back = amid.back;
        at = u.1;
        number = a.number;
        present = present-at m.standing w.chain a.partition a.chain;
        stands = subst (λ ps. AreStanding slots v ps h.listed)
            (amid.split ∙ ap (λ q. amid.front ++ (q ∷ amid.back)) ((λ i. partition_of (u.2 i) (a.number.split i)))) h.stands;
        row = row-of v a.version w.position r a.object;
      }
    where
      used_in : (us : List (Option Use)) (ps : List (Option PartitionEntry)) (cs : List (Option KeptChain)) (id : ℕ) (p : PartitionEntry) → AreKept us ps cs → slice_index_or ps id None ≡ Some p → (u : Use) × (slice_index_or us id None ≡ Some u) × (p.root ≡ u.root)
      used_in [] [] [] id p h e = absurd (no_some p e)
      used_in [] [] (c ∷ cs) id p h e = absurd h
      used_in [] (q ∷ ps) cs id p h e = absurd h
      used_in (u ∷ us) [] cs id p h e = absurd h
      used_in (u ∷ us) (q ∷ ps) [] id p h e = absurd h
      used_in (None ∷ us) (None ∷ ps) (c ∷ cs) zero p h e = absurd (no_some p e)
      used_in (None ∷ us) (Some q ∷ ps) (c ∷ cs) zero p h e = absurd h.0
      used_in (Some u ∷ us) (None ∷ ps) (c ∷ cs) zero p h e = absurd (no_some p e)
      used_in (Some u ∷ us) (Some q ∷ ps) (c ∷ cs) zero p h e = (u, refl, ap (λ (x : PartitionEntry). x.root) (sym (same_some q p e)) ∙ h.0.0)
      used_in (u ∷ us) (q ∷ ps) (c ∷ cs) (suc id) p h e = used_in us ps cs id p h.1 e

      used_of : (id : ℕ) (p : PartitionEntry) → slice_index_or m.standing id None ≡ Some p → (u : Use) × (use_at registry.uses id ≡ Some u) × (p.root ≡ u.root)
      used_of id p e = used_in registry.uses m.standing m.chains id p h.kept e

  pub next-none : (after o : Option ℕ) → IfNone o ((i : ℕ) → IsAfter after i → use_at registry.uses i ≡ None) → IfNone o ((i : ℕ) → IsAfter after i → chain_at m i ≡ None)
  next-none after None n = λ i a. unused slots v registry counts m h i (n i a)
  next-none after (Some id) n = tt

  -- an object at a place is a row of some version
  pub row-any : (r : Ref) (w : Member) → HasHome r w → IsRowOfAny v (present m.standing) r
  row-any r w a = (a.partition, a.version, a.present, subst (λ vs. Contains vs a.version) (sym a.number.split) (elem-here a.number.older a.number.newer a.version), a.row)

  -- the head of a version by its object
  versioned : (id j : ℕ) (n : Ref) → IsVersionObject m id j n → (p : PartitionEntry) × (s : StandingVersion) × (slice_index_or m.standing id None ≡ Some p) × IsVersionAt p.versions j s × (s.object ≡ n)
  versioned id j n is = of (slice_index_or m.standing id None) is
    where
      of : (o : Option PartitionEntry) → IsSomeAnd o (λ p. (s : StandingVersion) × IsVersionAt p.versions j s × (s.object ≡ n)) → (p : PartitionEntry) × (s : StandingVersion) × (o ≡ Some p) × IsVersionAt p.versions j s × (s.object ≡ n)
      of None is = absurd is
      of (Some p) is = (p, is.0, refl, is.1, is.2)

  pub head-held : (id j : ℕ) (n : Ref) → IsVersionObject m id j n → (head : Head) × HoldsHead v n head
  head-held id j n is =
      let a = versioned id j n is in let s = a.1 in
      (version_head s.version, subst (λ o. HoldsHead v o (version_head s.version)) a.4 (version-there slots v h.well m.standing h.listed h.stands id j a.0 s a.2 a.3).head)

  pub phase-of : (id j : ℕ) (n : Ref) → IsVersionObject m id j n → (k : KeptChain) (w : Version) → chain_at m id ≡ Some k → IsVersionAt k.chain.versions j w → (head : Head) → ((it : Head) → HoldsHead v n it → head ≡ it) → head.phase ≡ w.phase
  phase-of id j n is k w e at head told =
      let a = versioned id j n is in let s = a.1 in let kept_so = chain-kept slots v registry counts m h id k e in
      let same = same_some a.0 kept_so.partition (sym a.2 ∙ kept_so.stands) in
      let listed_so = number-mapped (λ (x : StandingVersion). x.version) a.0.versions j s a.3 in
      let versions : k.chain.versions ≡ map (λ (x : StandingVersion). x.version) a.0.versions = ap (λ (x : KeptChain). x.chain.versions) kept_so.same ∙ ap (λ (q : PartitionEntry). map (λ (x : StandingVersion). x.version) q.versions) (sym same) in
      let one = number-one k.chain.versions j s.version w (subst (λ vs. IsVersionAt vs j s.version) (sym versions) listed_so) at in
      ap (λ (x : Head). x.phase) (told (version_head s.version) (subst (λ o. HoldsHead v o (version_head s.version)) a.4 (version-there slots v h.well m.standing h.listed h.stands id j a.0 s a.2 a.3).head)) ∙ ap (λ (x : Version). x.phase) one

pub version-has : (m : Memory) (id j : ℕ) → HasVersion m id j → HasChain m id
version-has m id j has = some (chain_at m id) has
  where
    some : (o : Option KeptChain) → IsSomeAnd o (λ k. j < length k.chain.versions) → IsSome o
    some None has = absurd has
    some (Some k) has = refl

pub version-found : (m : Memory) (id j : ℕ) (p : PartitionEntry) (s : StandingVersion) (n : Ref) → slice_index_or m.standing id None ≡ Some p → IsVersionAt p.versions j s → s.object ≡ n → IsVersionObject m id j n
version-found m id j p s n e at same = subst (λ o. IsSomeAnd o (λ q. (t : StandingVersion) × IsVersionAt q.versions j t × (t.object ≡ n))) (sym e) (s, at, same)

pub rooted : (registry : Registry) (id : ℕ) (u : Use) (root : Root) → use_at registry.uses id ≡ Some u → u.root ≡ root → HasRoot registry root id
rooted registry id u root e same = subst (λ o. IsSomeAnd o (λ x. x.root ≡ root)) (sym e) same

module _ (slots : Slots) (v : View) (registry : Registry) (counts : Counts) (m : Memory) (h : HoldMemory slots v registry counts m) where
  -- an object at a place has the links of the recency list
  pub recency-at : (r : Ref) (w : Member) → IsMemberObject m r w → HasRecency v r
  recency-at r w here =
      let a = at-place slots v registry counts m h r w here in
      row-recency v a.version (version-there slots v h.well m.standing h.listed h.stands w.chain w.version a.partition a.version a.chain a.number) r (row-of v a.version w.position r a.object)
