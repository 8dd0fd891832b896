-- What stands in a region is determined by the root slots.
use Rattle.std.proofs.Common.{◌≡◌, ◌≢◌, List, [], ◌∷◌, ◌++◌, Some, None, inl, inr, refl, sym, ap, ◌∙◌, subst, reverse}
use Rattle.std.specs.Prelude.{Contains, AllPairs}
use Rattle.std.proofs.lemmas.List.{reverse-reverse}
use Rattle.lsa_store.specs.declared.place.Ref.{Ref}
use Rattle.lsa_region.specs.declared.end.Root.{Root}
use Rattle.lsa_region.specs.declared.end.End.TheVariants.{Slot}
use Rattle.lsa_region.specs.Region.{View, link_of, IsWell}
use Rattle.lsa_region.specs.laws.Ends.{ends_decided}
use Rattle.lsa_path.specs.Path.{IsPath}
use Rattle.lsa_path.specs.laws.Passing.{path-determined}
use Rattle.lsa_list.specs.declared.recency.List.{List as Slots}
use Rattle.rc_version.specs.Versions.{IsVersionOf}
use Rattle.rc_version.specs.laws.Moving.{version-once}
use Rattle.rc_partition.specs.Partitions.{StandingVersion, PartitionEntry, AreStanding, IsPartitionEntry, heads_of, partition_of, roots_of, standing}
use Rattle.rc_partition.specs.laws.Apart.{entries-apart, entry-once, same_root}
use Rattle.rc_partition.specs.laws.Lists.{elem-first, elem-here, elem-later, elem-map, once-head, once-tail}

-- a value is the first of a list
abbrev pub HeadIs : {X : Type 0} → X → List X → Type 0
HeadIs x [] = ⊥
HeadIs x (y ∷ ys) = x ≡ y

pub heads : {X : Type 0} (x y : X) (xs ys : List X) → x ∷ xs ≡ y ∷ ys → x ≡ y
heads x y xs ys e = subst (HeadIs x) e refl

-- a list is what follows the first of another
abbrev pub TailIs : {X : Type 0} → List X → List X → Type 0
TailIs xs [] = ⊥
TailIs xs (y ∷ ys) = xs ≡ ys

pub tails : {X : Type 0} (x y : X) (xs ys : List X) → x ∷ xs ≡ y ∷ ys → xs ≡ ys
tails x y xs ys e = subst (TailIs xs) e refl

module _ (v : View) where
  pub same-standing : (s t : StandingVersion) → IsVersionOf v s.object s.entries s.version → IsVersionOf v t.object t.entries t.version → s.object ≡ t.object → s ≡ t
  same-standing s t h k same =
      let w = version-once v t.object s.entries t.entries s.version t.version (subst (λ n. IsVersionOf v n s.entries s.version) same h) k in
      λ i. standing (same i) (w.0 i) (w.1 i)

  same_versions : (ss ts : List StandingVersion) → ((s : StandingVersion) → Contains ss s → IsVersionOf v s.object s.entries s.version) → ((t : StandingVersion) → Contains ts t → IsVersionOf v t.object t.entries t.version)
      → heads_of ss ≡ heads_of ts → ss ≡ ts
  same_versions [] [] h k same = refl
  same_versions [] (t ∷ ts) h k same = cc same
  same_versions (s ∷ ss) [] h k same = cc same
  same_versions (s ∷ ss) (t ∷ ts) h k same = λ i.
      same-standing s t (h s (elem-first s ss)) (k t (elem-first t ts)) (heads s.object t.object (heads_of ss) (heads_of ts) same) i
      ∷ same_versions ss ts (λ q later. h q (elem-later s q ss later)) (λ q later. k q (elem-later t q ts later)) (tails s.object t.object (heads_of ss) (heads_of ts) same) i

  -- what a slot leads to is one partition
  pub same-entry : (p q : PartitionEntry) → IsPartitionEntry v p → IsPartitionEntry v q → p.root ≡ q.root → p ≡ q
  same-entry p q h k same =
      let back = (path-determined 1 0 (link_of v) (Slot q.root) (reverse (heads_of p.versions)) (reverse (heads_of q.versions)) None None refl refl
      (subst (λ r. IsPath 1 0 (link_of v) (Slot r) (reverse (heads_of p.versions)) None) same h.chain) k.chain).0 in
      let versions = same_versions p.versions q.versions h.versions k.versions (sym (reverse-reverse (heads_of p.versions)) ∙ ap reverse back ∙ reverse-reverse (heads_of q.versions)) in
      λ i. partition_of (same i) (versions i)

  pub same-entries : (ps qs : List PartitionEntry) → ((p : PartitionEntry) → Contains ps p → IsPartitionEntry v p) → ((q : PartitionEntry) → Contains qs q → IsPartitionEntry v q) → roots_of ps ≡ roots_of qs → ps ≡ qs
  same-entries [] [] h k same = refl
  same-entries [] (q ∷ qs) h k same = cc same
  same-entries (p ∷ ps) [] h k same = cc same
  same-entries (p ∷ ps) (q ∷ qs) h k same = λ i.
      same-entry p q (h p (elem-first p ps)) (k q (elem-first q qs)) (heads p.root q.root (roots_of ps) (roots_of qs) same) i
      ∷ same-entries ps qs (λ x later. h x (elem-later p x ps later)) (λ x later. k x (elem-later q x qs later)) (tails p.root q.root (roots_of ps) (roots_of qs) same) i

pub stands-once : (slots : Slots) (v : View) (ps qs : List PartitionEntry) (xs ys : List Ref) → AreStanding slots v ps xs → AreStanding slots v qs ys → roots_of ps ≡ roots_of qs → (ps ≡ qs) × (xs ≡ ys)
stands-once slots v ps qs xs ys h k same = (
  same-entries v ps qs h.entries k.entries same,
  (path-determined 0 1 (link_of v) (Slot slots.front) xs ys (Some (Slot slots.back)) (Some (Slot slots.back)) refl refl h.list.path k.list.path).0,
)

-- ---- the place of a version

parted : (us vs xs ys : List StandingVersion) (s t : StandingVersion) → AllPairs ◌≢◌ (heads_of (us ++ (s ∷ vs))) → us ++ (s ∷ vs) ≡ xs ++ (t ∷ ys) → s.object ≡ t.object → (us ≡ xs) × (s ≡ t) × (vs ≡ ys)
parted [] vs [] ys s t once e same = (refl, heads s t vs ys e, tails s t vs ys e)
parted [] vs (x ∷ xs) ys s t once e same = absurd (once-head s.object (heads_of vs) once (subst (Contains (heads_of vs)) (sym same)
    (elem-map (λ (q : StandingVersion). q.object) vs t (subst (λ l. Contains l t) (sym (tails s x vs (xs ++ (t ∷ ys)) e)) (elem-here xs ys t)))))
parted (u ∷ us) vs [] ys s t once e same = absurd (once-head u.object (heads_of (us ++ (s ∷ vs))) once
    (subst (Contains (heads_of (us ++ (s ∷ vs)))) (same ∙ ap (λ (q : StandingVersion). q.object) (sym (heads u t (us ++ (s ∷ vs)) ys e))) (elem-map (λ (q : StandingVersion). q.object) (us ++ (s ∷ vs)) s (elem-here us vs s))))
parted (u ∷ us) vs (x ∷ xs) ys s t once e same =
    let w = parted us vs xs ys s t (once-tail u.object (heads_of (us ++ (s ∷ vs))) once) (tails u x (us ++ (s ∷ vs)) (xs ++ (t ∷ ys)) e) same in
    ((λ i. heads u x (us ++ (s ∷ vs)) (xs ++ (t ∷ ys)) e i ∷ w.0 i), w.1, w.2)

pub same-place : (v : View) → IsWell v → (root other : Root) (us vs xs ys : List StandingVersion) (s t : StandingVersion) → IsPartitionEntry v (partition_of root (us ++ (s ∷ vs))) → IsPartitionEntry v (partition_of other (xs ++ (t ∷ ys))) → s.object ≡ t.object
    → (root ≡ other) × (us ≡ xs) × (s ≡ t) × (vs ≡ ys)
same-place v well root other us vs xs ys s t h k same = elim (ends_decided (Slot root) (Slot other)) [
  | inl slots ↦
      let roots = same_root root other slots in
      let w = parted us vs xs ys s t (entry-once v well (partition_of root (us ++ (s ∷ vs))) h)
      (ap (λ (p : PartitionEntry). p.versions) (same-entry v (partition_of root (us ++ (s ∷ vs))) (partition_of other (xs ++ (t ∷ ys))) h k roots)) same in
      (roots, w.0, w.1, w.2)
  | inr ne ↦ absurd (entries-apart v well (partition_of root (us ++ (s ∷ vs))) (partition_of other (xs ++ (t ∷ ys))) h k (λ e. ne (ap (λ r. Slot r) (sym e))) s.object
      (elem-map (λ (q : StandingVersion). q.object) (us ++ (s ∷ vs)) s (elem-here us vs s))
      (subst (Contains (heads_of (xs ++ (t ∷ ys)))) (sym same) (elem-map (λ (q : StandingVersion). q.object) (xs ++ (t ∷ ys)) t (elem-here xs ys t))))
]
