-- Where nothing leaks, each object is a version that stands there, or an entry or a static row of one.
use Rattle.std.proofs.Common.{◌≡◌, ◌≢◌, ◌⊎◌, ℕ, suc, ◌+◌, ◌≤◌, ◌<◌, List, [], ◌∷◌, ◌++◌, length, Option, Some, None, IsSome, inl, inr, refl, sym, ap, ◌∙◌, subst, arith}
use Rattle.std.specs.Prelude.{IsSomeAnd, Contains, AllPairs, sum_by}
use Rattle.std.specs.List.{flat_map}
use Rattle.std.proofs.lemmas.List.{length-append}
use Rattle.std.proofs.lemmas.List.Concat.{length-flat_map}
use Rattle.std.proofs.lemmas.List.Elements.{Contains-append_left, Contains-append_right, Contains-append_cases}
use Rattle.std.proofs.lemmas.List.Sums.{sum_by-cons, sum_by-append}
use Rattle.rc_cell.specs.declared.rows.Row.{Row}
use Rattle.lsa_kinds.specs.declared.kind.Kind.{Kind}
use Rattle.lsa_kinds.specs.declared.kind.Kind.TheVariants.{Version as VersionKind}
use Rattle.lsa_store.specs.declared.place.Ref.{Ref}
use Rattle.lsa_store.specs.Objects.{rounded_size}
use Rattle.lsa_region.specs.declared.end.End.{End}
use Rattle.lsa_region.specs.declared.end.End.TheVariants.{Obj}
use Rattle.lsa_region.specs.Layout.{object_extent}
use Rattle.lsa_region.specs.Region.{View, body, link_of, live_bytes, objects, IsWell, IsSummed}
use Rattle.lsa_region.specs.laws.Refs.{refs_decided}
use Rattle.lsa_path.specs.laws.Renamed.{some-there}
use Rattle.lsa_list.specs.declared.recency.List.{List as Slots}
use Rattle.lsa_list.specs.calls.Recency.{object_of}
use Rattle.rc_version.specs.Trees.{tree-pairs}
use Rattle.rc_core.specs.declared.entries.Entry.{Entry}
use Rattle.rc_rowcode.specs.Objects.{static_size}
use Rattle.rc_version.specs.Versions.{tree_of, version_head, HasStatics, HoldEntries, IsVersionOf, IsStaticsOf, statics_bytes, entries_bytes, version_bytes}
use Rattle.rc_version.specs.laws.Objects.{head-extent, holds-extent}
use Rattle.rc_version.specs.laws.Staying.{version-kind, entries-kind}
use Rattle.rc_partition.specs.Partitions.{StandingVersion, PartitionEntry, AreStanding, IsPartitionEntry, IsRowOfVersion, IsRowOfAny, heads_of, roots_of, static_objects, version_objects, partition_objects, partition_bytes}
use Rattle.rc_partition.specs.laws.Apart.{versions_of, objects-once, entry_apart, static-kind, row-version, row-recency, parts-apart}
use Rattle.rc_partition.specs.laws.Lists.{elem-cases, elem-first, elem-later, elem-map, elem-none, elem-parted, once-none, once-cons, once-both, once-head, once-tail, sum-joined, sum-same}

-- the object that an end names, if it names one
abbrev pub named_object : Option Ref → List Ref
named_object None = []
named_object (Some r) = r ∷ []

-- the objects of a version: its head, its static row and its entries
abbrev pub parts_of : View → StandingVersion → List Ref
parts_of v s = s.object ∷ (named_object (object_of (link_of v (Obj s.object 3))) ++ s.entries)

-- ---- one version

module _ (v : View) where
  entries_sum : (refs : List Ref) (es : List Entry) → HoldEntries v refs es → sum_by (λ r. object_extent (body v r)) refs ≡ entries_bytes es
  entries_sum [] [] h = refl
  entries_sum [] (e ∷ es) h = absurd h
  entries_sum (r ∷ refs) [] h = absurd h
  entries_sum (r ∷ refs) (e ∷ es) h = sum_by-cons (λ q. object_extent (body v q)) r refs ∙ (λ i. holds-extent v r e h.0 i + entries_sum refs es h.1 i)

  entries_length : (refs : List Ref) (es : List Entry) → HoldEntries v refs es → length refs ≡ length es
  entries_length [] [] h = refl
  entries_length [] (e ∷ es) h = absurd h
  entries_length (r ∷ refs) [] h = absurd h
  entries_length (r ∷ refs) (e ∷ es) h = ap suc (entries_length refs es h.1)

  static_sum : (n : Ref) (row : Option Row) → HasStatics v n row → sum_by (λ r. object_extent (body v r)) (named_object (object_of (link_of v (Obj n 3)))) ≡ statics_bytes row
  static_sum n None h = ap (λ o. sum_by (λ r. object_extent (body v r)) (named_object (object_of o))) h
  static_sum n (Some row) h = ap (λ o. sum_by (λ r. object_extent (body v r)) (named_object (object_of o))) h.1 ∙ sum_by-cons (λ r. object_extent (body v r)) h.0 [] ∙ (let one : object_extent (body v h.0) ≡ static_size row = ap object_extent h.2.0 in omega (arith, one))

  static_length : (n : Ref) (row : Option Row) → HasStatics v n row → length (named_object (object_of (link_of v (Obj n 3)))) ≡ static_objects row
  static_length n None h = ap (λ o. length (named_object (object_of o))) h
  static_length n (Some row) h = ap (λ o. length (named_object (object_of o))) h.1

  static_member : (o : Option End) (r : Ref) → Contains (named_object (object_of o)) r → object_of o ≡ Some r
  static_member o r h = member (object_of o) h
    where
      member : (x : Option Ref) → Contains (named_object x) r → x ≡ Some r
      member None k = absurd (elem-none r k)
      member (Some q) k = elim (elem-cases q r [] k) [ inl same ↦ ap (λ z. Some z) same | inr later ↦ absurd (elem-none r later) ]

  named_static : (n r : Ref) (row : Option Row) → HasStatics v n row → object_of (link_of v (Obj n 3)) ≡ Some r → IsStaticsOf v n r
  named_static n r None h is = absurd (let clash : None ≡ Some r = sym (ap object_of h) ∙ is in cc)
  named_static n r (Some row) h is = let both : Some h.0 ≡ Some r = sym (ap object_of h.1) ∙ is in let same : h.0 ≡ r = cc in h.1 ∙ ap (λ q. Some (Obj q 2)) same

  static_once : (x : Option Ref) → AllPairs ◌≢◌ (named_object x)
  static_once None = once-none
  static_once (Some r) = once-cons r [] (elem-none r) once-none

module _ (v : View) (s : StandingVersion) (h : IsVersionOf v s.object s.entries s.version) where
  part_static : (r : Ref) → Contains (named_object (object_of (link_of v (Obj s.object 3)))) r → IsStaticsOf v s.object r
  part_static r k = named_static v s.object r s.version.statics h.statics (static_member v (link_of v (Obj s.object 3)) r k)

  -- a part is the head or a row
  pub part-cases : (r : Ref) → Contains (parts_of v s) r → (s.object ≡ r) ⊎ IsRowOfVersion v s r
  part-cases r k = elim (elem-cases s.object r (named_object (object_of (link_of v (Obj s.object 3))) ++ s.entries) k) [
    | inl same ↦ inl same
    | inr later ↦ elim (Contains-append_cases (named_object (object_of (link_of v (Obj s.object 3)))) s.entries r later) [
      | inl static ↦ inr (inr (part_static r static))
      | inr entry ↦ inr (inl entry)
    ]
  ]

  pub head-part : Contains (parts_of v s) s.object
  head-part = elem-first s.object (named_object (object_of (link_of v (Obj s.object 3))) ++ s.entries)

  pub row-part : (r : Ref) → IsRowOfVersion v s r → Contains (parts_of v s) r
  row-part r (inl k) = elem-later s.object r (named_object (object_of (link_of v (Obj s.object 3))) ++ s.entries) (Contains-append_right (named_object (object_of (link_of v (Obj s.object 3)))) s.entries r k)
  row-part r (inr link) = elem-later s.object r (named_object (object_of (link_of v (Obj s.object 3))) ++ s.entries) (Contains-append_left (named_object (object_of (link_of v (Obj s.object 3)))) s.entries r
      (subst (λ o. Contains (named_object (object_of o)) r) (sym link) (elem-first r [])))

  pub part-live : (r : Ref) → Contains (parts_of v s) r → IsSome (body v r)
  part-live r k = elim (part-cases r k) [
    | inl same ↦ some-there _ (body v r) (subst (λ q. IsSomeAnd (body v q) (λ b. b.0 ≡ VersionKind)) same (version-kind v s.object s.entries s.version h))
    | inr row ↦ some-there _ (body v r) (row-recency v s h r row)
  ]

  static_beside : (r : Ref) → Contains (named_object (object_of (link_of v (Obj s.object 3)))) r → Contains s.entries r → ⊥
  static_beside r a b = entry_apart (body v r) (static-kind v s h r (part_static r a)) (entries-kind v s.object s.entries s.version h r b)

  pub parts-once : IsWell v → AllPairs ◌≢◌ (parts_of v s)
  parts-once well = once-cons s.object (named_object (object_of (link_of v (Obj s.object 3))) ++ s.entries)
      (λ k. elim (Contains-append_cases (named_object (object_of (link_of v (Obj s.object 3)))) s.entries s.object k) [
        | inl static ↦ row-version v s h s.object (inr (part_static s.object static)) (version-kind v s.object s.entries s.version h)
        | inr entry ↦ row-version v s h s.object (inl entry) (version-kind v s.object s.entries s.version h)
      ])
      (once-both (named_object (object_of (link_of v (Obj s.object 3)))) s.entries (static_once v (object_of (link_of v (Obj s.object 3))))
      (tree-pairs (tree_of s.object) v well s.entries h.tree)
      static_beside)

  pub parts-sum : sum_by (λ r. object_extent (body v r)) (parts_of v s) ≡ version_bytes s.version
  parts-sum = sum_by-cons (λ r. object_extent (body v r)) s.object (named_object (object_of (link_of v (Obj s.object 3))) ++ s.entries)
      ∙ (λ i. head-extent v s.object (version_head s.version) h.head i + sum_by-append (λ r. object_extent (body v r)) (named_object (object_of (link_of v (Obj s.object 3)))) s.entries i)
      ∙ (λ i. 64 + (static_sum v s.object s.version.statics h.statics i + entries_sum v s.entries s.version.entries h.entries i))

  pub parts-length : length (parts_of v s) ≡ version_objects s.version
  parts-length = let one = static_length v s.object s.version.statics h.statics in let rest = entries_length v s.entries s.version.entries h.entries in
      omega (arith, length-append (named_object (object_of (link_of v (Obj s.object 3)))) s.entries, one, rest)

-- ---- versions of different objects together

-- the objects of all these versions
abbrev pub all_parts : View → List StandingVersion → List Ref
all_parts v vs = flat_map (parts_of v) vs

module _ (v : View) (well : IsWell v) where
  all-once : (vs : List StandingVersion) → AllPairs ◌≢◌ (heads_of vs) → ((s : StandingVersion) → Contains vs s → IsVersionOf v s.object s.entries s.version) → AllPairs ◌≢◌ (all_parts v vs)
  all-once [] once h = once-none
  all-once (s ∷ vs) once h = once-both (parts_of v s) (all_parts v vs) (parts-once v s (h s (elem-first s vs)) well)
      (all-once vs (once-tail s.object (heads_of vs) once) (λ t later. h t (elem-later s t vs later)))
      (λ r a b. let w = elem-parted (parts_of v) vs r b in let k = h w.0 (elem-later s w.0 vs w.1) in
      parts-apart v well s w.0 (h s (elem-first s vs)) k
      (λ same. once-head s.object (heads_of vs) once (subst (Contains (heads_of vs)) (sym same) (elem-map (λ (t : StandingVersion). t.object) vs w.0 w.1)))
      r (part-cases v s (h s (elem-first s vs)) r a) (part-cases v w.0 k r w.2))

  all-sum : (vs : List StandingVersion) → ((s : StandingVersion) → Contains vs s → IsVersionOf v s.object s.entries s.version) → sum_by (λ r. object_extent (body v r)) (all_parts v vs) ≡ sum_by (λ s. version_bytes s.version) vs
  all-sum vs h = sum-joined (parts_of v) (λ r. object_extent (body v r)) vs ∙ sum-same (λ s. sum_by (λ r. object_extent (body v r)) (parts_of v s)) (λ s. version_bytes s.version) vs (λ s k. parts-sum v s (h s k))

  all-length : (vs : List StandingVersion) → ((s : StandingVersion) → Contains vs s → IsVersionOf v s.object s.entries s.version) → length (all_parts v vs) ≡ sum_by (λ s. version_objects s.version) vs
  all-length vs h = length-flat_map (parts_of v) vs ∙ sum-same (λ s. length (parts_of v s)) (λ s. version_objects s.version) vs (λ s k. parts-length v s (h s k))

-- ---- no object takes nothing

taken : (kind : Kind) (n : ℕ) → 0 < rounded_size kind n
taken kind n = omega arith

extent_some : (o : Option (Kind × List ℕ)) → IsSome o → 0 < object_extent o
extent_some None h = cc h
extent_some (Some b) h = taken b.0 (length b.1)

too_much : (a b c : ℕ) → 0 < a → a + b ≤ c → b ≡ c → ⊥
too_much a b c some most is = omega (arith, some, most, is)

elem_decided : (r : Ref) (xs : List Ref) → Contains xs r ⊎ (Contains xs r → ⊥)
elem_decided r [] = inr (elem-none r)
elem_decided r (x ∷ xs) = elim (refs_decided x r) [
  | inl same ↦ inl (subst (λ z. Contains (x ∷ xs) z) same (elem-first x xs))
  | inr ne ↦ elim (elem_decided r xs) [
    | inl later ↦ inl (elem-later x r xs later)
    | inr off ↦ inr (λ c. elim (elem-cases x r xs c) [ inl same ↦ ne same | inr later ↦ off later ])
  ]
]

-- ---- all of a region

module _ (v : View) (partitions : List PartitionEntry) (well : IsWell v) (summed : IsSummed v) (apart : AllPairs ◌≢◌ (roots_of partitions)) (entries : (p : PartitionEntry) → Contains partitions p → IsPartitionEntry v p) (whole : live_bytes v ≡ sum_by partition_bytes partitions) where
  version_stands : (s : StandingVersion) → Contains (versions_of partitions) s → IsVersionOf v s.object s.entries s.version
  version_stands s k = let w = elem-parted (λ (p : PartitionEntry). p.versions) partitions s k in (entries w.0 w.1).versions s w.2

  once : AllPairs ◌≢◌ (all_parts v (versions_of partitions))
  once = all-once v well (versions_of partitions) (objects-once v well partitions apart entries) version_stands

  full : sum_by (λ r. object_extent (body v r)) (all_parts v (versions_of partitions)) ≡ live_bytes v
  full = all-sum v well (versions_of partitions) version_stands ∙ sum-joined (λ (p : PartitionEntry). p.versions) (λ s. version_bytes s.version) partitions ∙ sym whole

  part_of_all : (r : Ref) → IsSome (body v r) → Contains (all_parts v (versions_of partitions)) r
  part_of_all r live = elim (elem_decided r (all_parts v (versions_of partitions))) [
    | inl on ↦ on
    | inr off ↦ absurd (too_much (object_extent (body v r)) (sum_by (λ q. object_extent (body v q)) (all_parts v (versions_of partitions))) (live_bytes v) (extent_some (body v r) live)
        (subst (λ n. n ≤ live_bytes v) (sum_by-cons (λ q. object_extent (body v q)) r (all_parts v (versions_of partitions))) (summed.most (r ∷ all_parts v (versions_of partitions)) (once-cons r (all_parts v (versions_of partitions)) off once)))
        full)
  ]

  -- each object is a version, or a row of one
  pub each-stands : (r : Ref) → IsSome (body v r) → ((p : PartitionEntry) × (s : StandingVersion) × Contains partitions p × Contains p.versions s × (s.object ≡ r)) ⊎ IsRowOfAny v partitions r
  each-stands r live =
      let w = elem-parted (parts_of v) (versions_of partitions) r (part_of_all r live) in
      let at = elem-parted (λ (p : PartitionEntry). p.versions) partitions w.0 w.1 in
      elim (part-cases v w.0 (version_stands w.0 w.1) r w.2) [
        | inl same ↦ inl (at.0, w.0, at.1, at.2, same)
        | inr row ↦ inr (at.0, w.0, at.1, at.2, row)
      ]

  -- so many objects are there
  pub each-counted : objects v ≡ sum_by partition_objects partitions
  each-counted = sym (summed.all (all_parts v (versions_of partitions)) (record {
    each = part_of_all;
    live = λ r k. let w = elem-parted (parts_of v) (versions_of partitions) r k in part-live v w.0 (version_stands w.0 w.1) r w.2;
    once = once;
  })) ∙ all-length v well (versions_of partitions) version_stands ∙ sum-joined (λ (p : PartitionEntry). p.versions) (λ s. version_objects s.version) partitions

module _ (slots : Slots) (v : View) (partitions : List PartitionEntry) (listed : List Ref) (well : IsWell v) (summed : IsSummed v) (h : AreStanding slots v partitions listed) where
  pub nothing-else : (r : Ref) → IsSome (body v r) → ((p : PartitionEntry) × (s : StandingVersion) × Contains partitions p × Contains p.versions s × (s.object ≡ r)) ⊎ IsRowOfAny v partitions r
  nothing-else = each-stands v partitions well summed h.apart h.entries h.whole

  pub all-counted : objects v ≡ sum_by partition_objects partitions
  all-counted = each-counted v partitions well summed h.apart h.entries h.whole
