-- Region, list, table and counts are one memory.
use Rattle.std.proofs.Common.{◌≡◌, ℕ, List, [], ◌∷◌, Option, Some, None, refl, sym, ap, ◌∙◌, subst, map}
use Rattle.std.specs.Coded.{codes}
use Rattle.lsa_region.specs.Region.{View}
use Rattle.rc_partition.specs.List.{List as Slots}
use Rattle.rc_partition.specs.Partitions.{PartitionEntry, roots_of}
use Rattle.rc_partition.specs.laws.Same.{stands-once}
use Rattle.rc_registry.specs.declared.uses.Use.{Use}
use Rattle.rc_registry.specs.Registry.{Registry}
use mathlib.Core.HLevel.{Σ_prop_path}
use mathlib.Core.Logic.{∥∥₁_elim, ∥∥₁_prop}
use Rattle.rc_memory.specs.declared.counts.Counts.{Counts}
use Rattle.rc_memory.specs.Memory.{KeptChain, Memory}
use Rattle.rc_memory.specs.Kept.{HoldMemory, HasMemory, AreKept, StandAt, chain_of_use, present}
use Rattle.rc_memory.specs.laws.Places.{heads, members-once, tails}

pub memory-set : (m n : Memory) → IsProp (m ≡ n)
memory-set m n = Prim.hlevel codes

-- ---- chains by their use and their versions

pub kept-roots : (us : List (Option Use)) (ps : List (Option PartitionEntry)) (cs : List (Option KeptChain)) → AreKept us ps cs → roots_of (present ps) ≡ map (λ (u : Use). u.root) (present us)
kept-roots [] [] [] h = refl
kept-roots [] [] (c ∷ cs) h = absurd h
kept-roots [] (p ∷ ps) cs h = absurd h
kept-roots (u ∷ us) [] cs h = absurd h
kept-roots (u ∷ us) (p ∷ ps) [] h = absurd h
kept-roots (None ∷ us) (None ∷ ps) (c ∷ cs) h = kept-roots us ps cs h.1
kept-roots (None ∷ us) (Some p ∷ ps) (c ∷ cs) h = absurd h.0
kept-roots (Some u ∷ us) (None ∷ ps) (c ∷ cs) h = absurd h.0
kept-roots (Some u ∷ us) (Some p ∷ ps) (c ∷ cs) h = let rest = kept-roots us ps cs h.1 in λ i. h.0.0 i ∷ rest i

pub kept-same : (us : List (Option Use)) (ps qs : List (Option PartitionEntry)) (cs ds : List (Option KeptChain)) → AreKept us ps cs → AreKept us qs ds → present ps ≡ present qs → (ps ≡ qs) × (cs ≡ ds)
kept-same [] [] [] [] [] a b e = (refl, refl)
kept-same [] [] [] [] (d ∷ ds) a b e = absurd b
kept-same [] [] [] (c ∷ cs) ds a b e = absurd a
kept-same [] [] (q ∷ qs) cs ds a b e = absurd b
kept-same [] (p ∷ ps) qs cs ds a b e = absurd a
kept-same (u ∷ us) [] qs cs ds a b e = absurd a
kept-same (u ∷ us) (p ∷ ps) [] cs ds a b e = absurd b
kept-same (u ∷ us) (p ∷ ps) (q ∷ qs) [] ds a b e = absurd a
kept-same (u ∷ us) (p ∷ ps) (q ∷ qs) (c ∷ cs) [] a b e = absurd b
kept-same (None ∷ us) (None ∷ ps) (None ∷ qs) (c ∷ cs) (d ∷ ds) a b e = let rest = kept-same us ps qs cs ds a.1 b.1 e in let one = a.0 ∙ sym b.0 in ((λ i. None ∷ rest.0 i), (λ i. one i ∷ rest.1 i))
kept-same (None ∷ us) (None ∷ ps) (Some q ∷ qs) (c ∷ cs) (d ∷ ds) a b e = absurd b.0
kept-same (None ∷ us) (Some p ∷ ps) qs cs ds a b e = absurd (some_use us p ps qs cs a)
  where
    some_use : (us : List (Option Use)) (p : PartitionEntry) (ps qs : List (Option PartitionEntry)) (cs : List (Option KeptChain)) → AreKept (None ∷ us) (Some p ∷ ps) cs → ⊥
    some_use us p ps qs [] a = a
    some_use us p ps qs (c ∷ cs) a = a.0
kept-same (Some u ∷ us) (None ∷ ps) (q ∷ qs) (c ∷ cs) (d ∷ ds) a b e = absurd a.0
kept-same (Some u ∷ us) (Some p ∷ ps) (None ∷ qs) (c ∷ cs) (d ∷ ds) a b e = absurd b.0
kept-same (Some u ∷ us) (Some p ∷ ps) (Some q ∷ qs) (c ∷ cs) (d ∷ ds) a b e =
    let head = heads p q (present ps) (present qs) e in let rest = kept-same us ps qs cs ds a.1 b.1 (tails p q (present ps) (present qs) e) in let one = a.0.1 ∙ ap (λ x. Some (chain_of_use u x)) head ∙ sym b.0.1 in
    ((λ i. Some (head i) ∷ rest.0 i), (λ i. one i ∷ rest.1 i))

module _ (slots : Slots) (v : View) (registry : Registry) (counts : Counts) where
  pub one-memory : (m n : Memory) → HoldMemory slots v registry counts m → HoldMemory slots v registry counts n → m ≡ n
  one-memory m n a b =
      let roots = kept-roots registry.uses m.standing m.chains a.kept ∙ sym (kept-roots registry.uses n.standing n.chains b.kept) in
      let there = stands-once slots v (present m.standing) (present n.standing) a.listed b.listed a.stands b.stands roots in
      let same = kept-same registry.uses m.standing n.standing m.chains n.chains a.kept b.kept there.0 in
      let recency = members-once slots v a.well m.standing a.listed a.stands a.listed m.recency n.recency a.recency
      (subst (λ refs. StandAt v m.standing refs n.recency) (sym there.1) (subst (λ st. StandAt v st b.listed n.recency) (sym same.0) b.recency)) in
      let dropped = a.dropped ∙ sym b.dropped in let counted = a.counted ∙ sym b.counted in let region = a.region ∙ sym b.region in
      λ i. record { chains = same.1 i; recency = recency i; dropped = dropped i; counts = counted i; region = region i; standing = same.0 i }

module _ (S : ℕ) (slots : Slots) (v : View) (registry : Registry) (counts : Counts) where
  pub memory-prop : IsProp (HasMemory S slots v registry counts)
  memory-prop s t = Σ_prop_path (λ (m : Memory). ∥∥₁_prop) (∥∥₁_elim s.1 (memory-set s.0 t.0) (λ a. ∥∥₁_elim t.1 (memory-set s.0 t.0) (λ b. one-memory slots v registry counts s.0 t.0 a.held b.held)))

  -- what is kept is a memory that these are
  pub kept-is : (s : HasMemory S slots v registry counts) (m : Memory) → HoldMemory slots v registry counts m → s.0 ≡ m
  kept-is s m b = ∥∥₁_elim s.1 (memory-set s.0 m) (λ a. one-memory slots v registry counts s.0 m a.held b)
