-- The chain of a number, by its use and its versions.
use Rattle.std.proofs.Common.{◌≡◌, ◌<◌, ℕ, zero, suc, false, List, [], ◌∷◌, ◌++◌, Option, Some, None, is_some, length, map, refl, sym, ap, ◌∙◌, subst, slice_index_or, arith}
use Rattle.std.specs.Prelude.{IsSomeAnd}
use Rattle.std.proofs.lemmas.List.{length-append, length-map, map-append}
use Rattle.lsa_region.specs.Region.{View}
use Rattle.rc_partition.specs.List.{List as Slots}
use Rattle.rc_registry.specs.Version.{Version, IsVersion}
use Rattle.rc_partition.specs.Partitions.{PartitionEntry, StandingVersion}
use Rattle.rc_registry.specs.declared.uses.Use.{Use}
use Rattle.rc_registry.specs.Registry.{Registry}
use Rattle.rc_memory.specs.declared.counts.Counts.{Counts}
use Rattle.rc_memory.specs.Memory.{KeptChain, Memory, HasVersion, IsVersionAt, chain_at}
use Rattle.rc_memory.specs.Kept.{AreKept, HoldMemory, IsKeptChain, chain_of_use, present}
use Rattle.rc_memory.specs.laws.Places.{no_some, same_some, version-there}
use Rattle.rc_memory.specs.laws.Listed.{one-at}

-- a chain, its use and its versions
pub record IsKeptAt (us : List (Option Use)) (ps : List (Option PartitionEntry)) (id : ℕ) (k : KeptChain) : Type 0 where
  pub used : Use
  pub partition : PartitionEntry
  pub at : slice_index_or us id None ≡ Some used
  pub stands : slice_index_or ps id None ≡ Some partition
  pub root : partition.root ≡ used.root
  pub same : k ≡ chain_of_use used partition

some-of : (u : Option Use) (p : Option PartitionEntry) (c : Option KeptChain) (k : KeptChain) → IsKeptChain u p c → c ≡ Some k → (used : Use) × (partition : PartitionEntry) × (u ≡ Some used) × (p ≡ Some partition) × (partition.root ≡ used.root) × (k ≡ chain_of_use used partition)
some-of None None c k h e = absurd (no_some k (sym h ∙ e))
some-of None (Some p) c k h e = absurd h
some-of (Some u) None c k h e = absurd h
some-of (Some u) (Some p) c k h e = (u, p, refl, refl, h.0, same_some k (chain_of_use u p) (sym e ∙ h.1))

pub kept-at : (us : List (Option Use)) (ps : List (Option PartitionEntry)) (cs : List (Option KeptChain)) (id : ℕ) (k : KeptChain) → AreKept us ps cs → slice_index_or cs id None ≡ Some k → IsKeptAt us ps id k
kept-at [] [] [] id k h e = absurd (no_some k e)
kept-at [] [] (c ∷ cs) id k h e = absurd h
kept-at [] (p ∷ ps) cs id k h e = absurd h
kept-at (u ∷ us) [] cs id k h e = absurd h
kept-at (u ∷ us) (p ∷ ps) [] id k h e = absurd h
kept-at (u ∷ us) (p ∷ ps) (c ∷ cs) zero k h e = let s = some-of u p c k h.0 e in record { used = s.0; partition = s.1; at = s.2; stands = s.3; root = s.4; same = s.5 }
kept-at (u ∷ us) (p ∷ ps) (c ∷ cs) (suc id) k h e = let s = kept-at us ps cs id k h.1 e in record { used = s.used; partition = s.partition; at = s.at; stands = s.stands; root = s.root; same = s.same }

-- where there is none there is no use
none-of : (u : Option Use) (p : Option PartitionEntry) (c : Option KeptChain) → IsKeptChain u p c → is_some u ≡ is_some c
none-of None None c h = ap is_some (sym h)
none-of None (Some p) c h = absurd h
none-of (Some u) None c h = absurd h
none-of (Some u) (Some p) c h = ap is_some (sym h.1)

pub used-there : (us : List (Option Use)) (ps : List (Option PartitionEntry)) (cs : List (Option KeptChain)) (id : ℕ) → AreKept us ps cs → is_some (slice_index_or us id None) ≡ is_some (slice_index_or cs id None)
used-there [] [] [] id h = refl
used-there [] [] (c ∷ cs) id h = absurd h
used-there [] (p ∷ ps) cs id h = absurd h
used-there (u ∷ us) [] cs id h = absurd h
used-there (u ∷ us) (p ∷ ps) [] id h = absurd h
used-there (u ∷ us) (p ∷ ps) (c ∷ cs) zero h = none-of u p c h.0
used-there (u ∷ us) (p ∷ ps) (c ∷ cs) (suc id) h = used-there us ps cs id h.1

none_there : {X : Type 0} (o : Option X) → is_some o ≡ false → o ≡ None
none_there None e = refl
none_there (Some x) e = cc e

-- where there is no use there is no chain, and the other way round
pub unused-chain : (us : List (Option Use)) (ps : List (Option PartitionEntry)) (cs : List (Option KeptChain)) (id : ℕ) → AreKept us ps cs → slice_index_or us id None ≡ None → slice_index_or cs id None ≡ None
unused-chain us ps cs id h e = none_there (slice_index_or cs id None) (sym (used-there us ps cs id h) ∙ ap is_some e)

pub no-use : (us : List (Option Use)) (ps : List (Option PartitionEntry)) (cs : List (Option KeptChain)) (id : ℕ) → AreKept us ps cs → slice_index_or cs id None ≡ None → slice_index_or us id None ≡ None
no-use us ps cs id h e = none_there (slice_index_or us id None) (used-there us ps cs id h ∙ ap is_some e)

-- ---- one partition among those that are there

-- it is one of those that are there
pub record IsAmong {X : Type 0} (xs : List (Option X)) (x : X) : Type 0 where
  pub front : List X
  pub back : List X
  pub split : present xs ≡ front ++ (x ∷ back)

pub present-split : {X : Type 0} (xs : List (Option X)) (n : ℕ) (x : X) → slice_index_or xs n None ≡ Some x → IsAmong xs x
present-split [] n x e = absurd (no_some x e)
present-split (None ∷ xs) zero x e = absurd (no_some x e)
present-split (None ∷ xs) (suc n) x e = let h = present-split xs n x e in record { front = h.front; back = h.back; split = h.split }
present-split (Some y ∷ xs) zero x e = record { front = []; back = present xs; split = ap (λ z. z ∷ present xs) (same_some y x e) }
present-split (Some y ∷ xs) (suc n) x e = let h = present-split xs n x e in record { front = y ∷ h.front; back = h.back; split = ap (λ zs. y ∷ zs) h.split }

-- ---- versions by number

module _ {X : Type 0} where
  -- each number below the length is that of one
  pub number-there : (xs : List X) (n : ℕ) → n < length xs → (x : X) × IsVersionAt xs n x
  number-there [] n low = absurd (omega (arith, low))
  number-there (x ∷ xs) zero low = (x, record { older = []; newer = xs; split = refl; number = refl })
  number-there (x ∷ xs) (suc n) low = let k = number-there xs n (omega (arith, low)) in (k.0, record { older = x ∷ k.1.older; newer = k.1.newer; split = ap (λ l. x ∷ l) k.1.split; number = ap suc k.1.number })

  pub number-low : (xs : List X) (j : ℕ) (x : X) → IsVersionAt xs j x → j < length xs
  number-low xs j x h = omega (arith, h.number, length-append h.older (x ∷ h.newer), (let e : length xs ≡ length (h.older ++ (x ∷ h.newer)) = ap length h.split in e))

module _ {X Y : Type 0} (f : X → Y) where
  pub number-mapped : (xs : List X) (n : ℕ) (x : X) → IsVersionAt xs n x → IsVersionAt (map f xs) n (f x)
  number-mapped xs n x h = record { older = map f h.older; newer = map f h.newer; split = ap (map f) h.split ∙ map-append f h.older (x ∷ h.newer); number = length-map h.older f ∙ h.number }

-- a chain that has a version of a number, and this version
pub found-version : (m : Memory) (id j : ℕ) → HasVersion m id j → (k : KeptChain) × (v : Version) × (chain_at m id ≡ Some k) × IsVersionAt k.chain.versions j v
found-version m id j has = of (chain_at m id) has
  where
    of : (o : Option KeptChain) → IsSomeAnd o (λ k. j < length k.chain.versions) → (k : KeptChain) × (v : Version) × (o ≡ Some k) × IsVersionAt k.chain.versions j v
    of None h = absurd h
    of (Some k) h = let at = number-there k.chain.versions j h in (k, at.0, refl, at.1)

-- each version of a chain is one: its entries ascend, and the last one is its end dummy
module _ (slots : Slots) (v : View) (registry : Registry) (counts : Counts) (m : Memory) (h : HoldMemory slots v registry counts m) where
  pub version-is : (id j : ℕ) (k : KeptChain) (c : Version) → chain_at m id ≡ Some k → IsVersionAt k.chain.versions j c → IsVersion c
  version-is id j k c there number =
      let a = kept-at registry.uses m.standing m.chains id k h.kept there in
      let at : IsVersionAt (map (λ (s : StandingVersion). s.version) a.partition.versions) j c = subst (λ (x : KeptChain). IsVersionAt x.chain.versions j c) a.same number in
      let s = number-there a.partition.versions j (omega (arith, number-low (map (λ (s : StandingVersion). s.version) a.partition.versions) j c at, length-map a.partition.versions (λ (s : StandingVersion). s.version))) in
      subst IsVersion (one-at (map (λ (s : StandingVersion). s.version) a.partition.versions) j s.0.version c (number-mapped (λ (s : StandingVersion). s.version) a.partition.versions j s.0 s.1) at)
      (version-there slots v h.well m.standing h.listed h.stands id j a.partition s.0 a.stands s.1).version
