-- Nothing else is in the region: each object is of a chain, and what is live, and how many objects there are, is told by the chains.
use Rattle.std.proofs.Common.{◌≡◌, ◌⊎◌, ℕ, zero, suc, ◌+◌, List, [], ◌∷◌, Option, Some, None, IsSome, length, inl, inr, refl, sym, ap, ◌∙◌, subst, slice_index_or}
use Rattle.std.specs.Prelude.{Contains, IsSomeAnd, sum_by}
use Rattle.std.proofs.lemmas.List.Sums.{sum_by-cons}
use Rattle.rc_position.specs.declared.positions.Pos.{Pos}
use Rattle.lsa_store.specs.declared.place.Ref.{Ref}
use Rattle.lsa_region.specs.Region.{View, body, live_bytes, objects, IsSummed}
use Rattle.rc_partition.specs.List.{List as Slots}
use Rattle.rc_partition.specs.Orders.{ascending-stands}
use Rattle.rc_registry.specs.Version.{Version}
use Rattle.rc_partition.specs.Versions.{IsVersionOf, version_bytes}
use Rattle.rc_partition.specs.Partitions.{IsRowOfVersion, PartitionEntry, StandingVersion, version_objects}
use Rattle.rc_partition.specs.laws.Lists.{elem-cases, elem-none, elem-split, sum-mapped}
use Rattle.rc_partition.specs.laws.Whole.{all-counted, nothing-else}
use Rattle.rc_registry.specs.declared.uses.Use.{Use}
use Rattle.rc_registry.specs.Registry.{Registry}
use Rattle.rc_memory.specs.declared.counts.Counts.{Counts}
use Rattle.rc_memory.specs.Memory.{KeptChain, Member, Memory, IsObjectAt, IsOfVersion, IsVersionAt, IsVersionObject}
use Rattle.rc_memory.specs.Kept.{AreKept, HoldMemory, chain_of_use, present}
use Rattle.rc_memory.specs.Room.{chain_bytes, chain_objects}

-- ---- what is in a list has a number

pub present-of : {X : Type 0} (xs : List (Option X)) (x : X) → Contains (present xs) x → (n : ℕ) × (slice_index_or xs n None ≡ Some x)
present-of [] x on = absurd (elem-none x on)
present-of (None ∷ xs) x on = let k = present-of xs x on in (suc k.0, k.1)
present-of (Some y ∷ xs) x on = elim (elem-cases y x (present xs) on) [
  | inl same ↦ (zero, ap (λ z. Some z) same)
  | inr later ↦ let k = present-of xs x later in (suc k.0, k.1)
]

pub number-of : (ss : List StandingVersion) (s : StandingVersion) → Contains ss s → (j : ℕ) × IsVersionAt ss j s
number-of ss s on = let k = elem-split ss s on in (length k.0, record { older = k.0; newer = k.1; split = k.2; number = refl })

-- a row of a version is the static row, or stands at a position
pub position-of : (v : View) (s : StandingVersion) → IsVersionOf v s.object s.entries s.version → (r : Ref) → IsRowOfVersion v s r → (at : Option Pos) × IsOfVersion v s at r
position-of v s k r (inl on) = let w = ascending-stands v s.entries r k.tree.ascending on in (Some w.0, (on, w.1))
position-of v s k r (inr link) = (None, link)

-- ---- sums over chains

module _ (f : Version → ℕ) where
  abbrev standing_sum : PartitionEntry → ℕ
  standing_sum p = sum_by (λ (s : StandingVersion). f s.version) p.versions

  abbrev chain_sum : KeptChain → ℕ
  chain_sum k = sum_by f k.chain.versions

  one_sum : (u : Use) (p : PartitionEntry) → sum_by (λ (s : StandingVersion). f s.version) p.versions ≡ sum_by f (chain_of_use u p).chain.versions
  one_sum u p = sym (sum-mapped (λ (s : StandingVersion). s.version) f p.versions)

  pub chains-summed : (us : List (Option Use)) (ps : List (Option PartitionEntry)) (cs : List (Option KeptChain)) → AreKept us ps cs
      → sum_by (λ (p : PartitionEntry). sum_by (λ (s : StandingVersion). f s.version) p.versions) (present ps) ≡ sum_by (λ (k : KeptChain). sum_by f k.chain.versions) (present cs)
  chains-summed [] [] [] h = refl
  chains-summed [] [] (c ∷ cs) h = absurd h
  chains-summed [] (p ∷ ps) cs h = absurd h
  chains-summed (u ∷ us) [] cs h = absurd h
  chains-summed (u ∷ us) (p ∷ ps) [] h = absurd h
  chains-summed (None ∷ us) (None ∷ ps) (c ∷ cs) h = chains-summed us ps cs h.1 ∙ ap (λ o. sum_by (λ (k : KeptChain). sum_by f k.chain.versions) (present (o ∷ cs))) (sym h.0)
  chains-summed (None ∷ us) (Some p ∷ ps) (c ∷ cs) h = absurd h.0
  chains-summed (Some u ∷ us) (None ∷ ps) (c ∷ cs) h = absurd h.0
  chains-summed (Some u ∷ us) (Some p ∷ ps) (c ∷ cs) h =
      let one = one_sum u p in let rest = chains-summed us ps cs h.1 in
      sum_by-cons (λ (q : PartitionEntry). sum_by (λ (s : StandingVersion). f s.version) q.versions) p (present ps) ∙ (λ i. one i + rest i)
      ∙ sym (sum_by-cons (λ (k : KeptChain). sum_by f k.chain.versions) (chain_of_use u p) (present cs)) ∙ ap (λ o. sum_by (λ (k : KeptChain). sum_by f k.chain.versions) (present (o ∷ cs))) (sym h.0.1)

module _ (slots : Slots) (v : View) (registry : Registry) (counts : Counts) (m : Memory) (h : HoldMemory slots v registry counts m) where
  -- what is live is what the chains take
  pub bytes-told : live_bytes v ≡ sum_by chain_bytes (present m.chains)
  bytes-told = h.stands.whole ∙ chains-summed version_bytes registry.uses m.standing m.chains h.kept

  pub objects-told : IsSummed v → objects v ≡ sum_by chain_objects (present m.chains)
  objects-told summed = all-counted slots v (present m.standing) h.listed h.well summed h.stands ∙ chains-summed version_objects registry.uses m.standing m.chains h.kept

  of_number : (o : Option PartitionEntry) (p : PartitionEntry) (j : ℕ) (s : StandingVersion) (r : Ref) → o ≡ Some p → IsVersionAt p.versions j s → s.object ≡ r
      → IsSomeAnd o (λ q. (t : StandingVersion) × IsVersionAt q.versions j t × (t.object ≡ r))
  of_number o p j s r e number is = subst (λ (x : Option PartitionEntry). IsSomeAnd x (λ q. (t : StandingVersion) × IsVersionAt q.versions j t × (t.object ≡ r))) (sym e) (s, number, is)

  -- each object is a version of a chain, or stands at a place
  pub each-told : IsSummed v → (r : Ref) → IsSome (body v r) → ((id : ℕ) × (j : ℕ) × IsVersionObject m id j r) ⊎ ((w : Member) × IsObjectAt v m.standing r w)
  each-told summed r live = elim (nothing-else slots v (present m.standing) h.listed h.well summed h.stands r live) [
    | inl head ↦ let n = present-of m.standing head.0 head.2 in let j = number-of head.0.versions head.1 head.3 in
        inl (n.0, j.0, of_number (slice_index_or m.standing n.0 None) head.0 j.0 head.1 r n.1 j.1 head.4)
    | inr row ↦ let n = present-of m.standing row.0 row.2 in let j = number-of row.0.versions row.1 row.3 in
        let at = position-of v row.1 ((h.stands.entries row.0 row.2).versions row.1 row.3) r row.4 in
        inr (record { chain = n.0; version = j.0; position = at.0 }, record { partition = row.0; version = row.1; chain = n.1; number = j.1; object = at.1 })
  ]
