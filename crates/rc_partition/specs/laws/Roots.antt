-- A partition without versions comes and goes with its root slot.
use Rattle.std.proofs.Common.{◌≡◌, ◌≢◌, ℕ, ◌+◌, List, [], ◌∷◌, ◌++◌, Some, None, inl, inr, sym, ap, ◌∙◌, subst, reverse, arith}
use Rattle.std.specs.Prelude.{Contains, AllPairs, sum_by}
use Rattle.std.specs.Option.{option_map}
use Rattle.std.proofs.lemmas.List.{map-append}
use Rattle.lsa_kinds.specs.declared.kind.Kind.{Kind}
use Rattle.lsa_pool.specs.Room.{live_sum}
use Rattle.lsa_store.specs.declared.place.Ref.{Ref}
use Rattle.lsa_region.specs.declared.end.Root.{Root}
use Rattle.lsa_region.specs.declared.end.End.{End}
use Rattle.lsa_region.specs.declared.end.End.TheVariants.{Obj, Slot}
use Rattle.lsa_region.specs.Region.{View, link_of, IsEnd, IsWell, IsRootAdded, IsRootDropped, SameButRoots}
use Rattle.lsa_path.specs.Path.{behind}
use Rattle.lsa_path.specs.laws.Paths.{path-everywhere}
use Rattle.lsa_list.specs.declared.recency.List.{List as Slots}
use Rattle.lsa_list.specs.Recency.{IsList}
use Rattle.lsa_list.specs.laws.Lists.{last-named, list-unlinked}
use Rattle.rc_version.specs.Versions.{IsUnlisted}
use Rattle.rc_version.specs.laws.Staying.{version-outward}
use Rattle.rc_partition.specs.Partitions.{StandingVersion, PartitionEntry, AreStanding, IsPartitionEntry, IsRowOfVersion, IsRowOfAny, heads_of, partition_bytes, partition_of, roots_of}
use Rattle.rc_partition.specs.laws.Apart.{same_root}
use Rattle.rc_partition.specs.laws.Lists.{elem-here, elem-map, elem-mapped, elem-none, elem-replaced, elem-still, once-beside, once-with, once-without, sum-middle, sum-without}

-- a slot that names something is there
named_there : (v : View) → IsWell v → (a b : End) → link_of v a ≡ Some b → IsEnd v a
named_there v well a b is = well.ends b a (well.paired.mates a b is)

-- the list's two slots are there
pub front-there : (slots : Slots) (v : View) → IsWell v → (xs : List Ref) → IsList slots v xs → IsEnd v (Slot slots.front)
front-there slots v well [] h = named_there v well (Slot slots.front) (Slot slots.back) h.path
front-there slots v well (x ∷ xs) h = named_there v well (Slot slots.front) (Obj x 0) h.path.0

pub back-there : (slots : Slots) (v : View) → IsWell v → (xs : List Ref) → IsList slots v xs → IsEnd v (Slot slots.back)
back-there slots v well xs h = named_there v well (Slot slots.back) (behind 1 (Slot slots.front) xs) (last-named slots v well xs h)

-- ---- where slots change alone

module _ (slots : Slots) (old new : View) (links : (e : End) → link_of new e ≡ link_of old e) (same : SameButRoots old new) where
  entry_kept : (p : PartitionEntry) → (IsEnd old (Slot p.root) → IsEnd new (Slot p.root)) → IsPartitionEntry old p → IsPartitionEntry new p
  entry_kept p there k = record {
    slot = there k.slot;
    chain = path-everywhere 1 0 (link_of old) (link_of new) (Slot p.root) (reverse (heads_of p.versions)) None links k.chain;
    versions = λ t on. version-outward old new t.object t.entries t.version (λ e far. links e) same.bodies (k.versions t on);
  }

  row_kept : (t : StandingVersion) (r : Ref) → IsRowOfVersion old t r → IsRowOfVersion new t r
  row_kept t r (inl on) = inl on
  row_kept t r (inr link) = inr (links (Obj t.object 3) ∙ link)

  row_back : (t : StandingVersion) (r : Ref) → IsRowOfVersion new t r → IsRowOfVersion old t r
  row_back t r (inl on) = inl on
  row_back t r (inr link) = inr (sym (links (Obj t.object 3)) ∙ link)

  unlisted_kept : (r : Ref) → IsUnlisted old r → IsUnlisted new r
  unlisted_kept r unset field low = links (Obj r field) ∙ unset field low

  list_kept : (xs : List Ref) → IsList slots old xs → IsList slots new xs
  list_kept xs h = list-unlinked slots old new xs h links (λ r on. ap (option_map (λ (b : Kind × List ℕ). b.0)) (same.bodies r))

nothing_more : (a b c : ℕ) → a ≡ b + c → a ≡ b + (0 + c)
nothing_more a b c is = omega (arith, is)

nothing_less : (a b c : ℕ) → a ≡ b + (0 + c) → a ≡ b + c
nothing_less a b c is = omega (arith, is)

module _ (slots : Slots) (old new : View) (front back : List PartitionEntry) (r : Root) (listed : List Ref) where
  abbrev empty : PartitionEntry
  empty = partition_of r []

  -- a row of partitions is of none without versions
  row_of : (v : View) (q : Ref) → IsRowOfAny v (front ++ (partition_of r [] ∷ back)) q → IsRowOfAny v (front ++ back) q
  row_of v q w = elim (elem-replaced front back (partition_of r []) w.0 w.2) [
    | inl is ↦ absurd (elem-none w.1 (subst (λ (p : PartitionEntry). Contains p.versions w.1) (sym is) w.3))
    | inr other ↦ (w.0, w.1, other, w.3, w.4)
  ]

  row_among : (v : View) (q : Ref) → IsRowOfAny v (front ++ back) q → IsRowOfAny v (front ++ (partition_of r [] ∷ back)) q
  row_among v q w = (w.0, w.1, elem-still front back (partition_of r []) w.0 w.2, w.3, w.4)

  roots_with : roots_of (front ++ (partition_of r [] ∷ back)) ≡ roots_of front ++ (r ∷ roots_of back)
  roots_with = map-append (λ (p : PartitionEntry). p.root) front (partition_of r [] ∷ back)

  roots_without : roots_of (front ++ back) ≡ roots_of front ++ roots_of back
  roots_without = map-append (λ (p : PartitionEntry). p.root) front back

  pub stands-with_empty : IsRootAdded old new r → SameButRoots old new → IsWell old → AreStanding slots old (front ++ back) listed → AreStanding slots new (front ++ (partition_of r [] ∷ back)) listed
  stands-with_empty added same well h = record {
    apart = subst (AllPairs ◌≢◌) (sym roots_with) (once-with (roots_of front) (roots_of back) r
        (λ on. let w = elem-mapped (λ (p : PartitionEntry). p.root) (front ++ back) r (subst (λ l. Contains l r) (sym roots_without) on) in
        added.fresh (subst (λ q. IsEnd old (Slot q)) w.2 (h.entries w.0 w.1).slot)) (subst (AllPairs ◌≢◌) roots_without h.apart));
    beside = λ p on. elim (elem-replaced front back (partition_of r []) p on) [
      | inl is ↦ subst (λ (q : PartitionEntry). (q.root ≢ slots.front) × (q.root ≢ slots.back)) is
          ((λ e. added.fresh (subst (λ q. IsEnd old (Slot q)) (sym e) (front-there slots old well listed h.list))), (λ e. added.fresh (subst (λ q. IsEnd old (Slot q)) (sym e) (back-there slots old well listed h.list))))
      | inr other ↦ h.beside p other
    ];
    entries = λ p on. elim (elem-replaced front back (partition_of r []) p on) [
      | inl is ↦ subst (IsPartitionEntry new) is (record { slot = added.here; chain = added.unset; versions = λ t none. absurd (elem-none t none) })
      | inr other ↦ entry_kept slots old new added.links same p (added.ends (Slot p.root)) (h.entries p other)
    ];
    list = list_kept slots old new added.links same listed h.list;
    owned = λ q on. let w = h.owned q on in row_among new q (w.0, w.1, w.2, w.3, row_kept slots old new added.links same w.1 q w.4);
    unlisted = λ q w off. let u = row_of new q w in unlisted_kept slots old new added.links same q (h.unlisted q (u.0, u.1, u.2, u.3, row_back slots old new added.links same u.1 q u.4) off);
    whole = ap (λ us. live_sum us) same.usages ∙ nothing_more _ (sum_by partition_bytes front) (sum_by partition_bytes back) (h.whole ∙ sum-without partition_bytes front back) ∙ sym (sum-middle partition_bytes front back (partition_of r []));
  }

  pub stands-without_empty : IsRootDropped old new r → SameButRoots old new → AreStanding slots old (front ++ (partition_of r [] ∷ back)) listed → AreStanding slots new (front ++ back) listed
  stands-without_empty dropped same h = record {
    apart = subst (AllPairs ◌≢◌) (sym roots_without) (once-without (roots_of front) (roots_of back) r (subst (AllPairs ◌≢◌) roots_with h.apart));
    beside = λ p on. h.beside p (elem-still front back (partition_of r []) p on);
    entries = λ p on. entry_kept slots old new dropped.links same p (dropped.ends (Slot p.root) (λ e. once-beside (roots_of front) (roots_of back) r (subst (AllPairs ◌≢◌) roots_with h.apart)
        (subst (λ l. Contains l r) roots_without (subst (Contains (roots_of (front ++ back))) (same_root p.root r e) (elem-map (λ (q : PartitionEntry). q.root) (front ++ back) p on)))))
        (h.entries p (elem-still front back (partition_of r []) p on));
    list = list_kept slots old new dropped.links same listed h.list;
    owned = λ q on. let w = h.owned q on in row_of new q (w.0, w.1, w.2, w.3, row_kept slots old new dropped.links same w.1 q w.4);
    unlisted = λ q w off. let u = row_among new q w in unlisted_kept slots old new dropped.links same q (h.unlisted q (u.0, u.1, u.2, u.3, row_back slots old new dropped.links same u.1 q u.4) off);
    whole = ap (λ us. live_sum us) same.usages ∙ nothing_less _ (sum_by partition_bytes front) (sum_by partition_bytes back) (h.whole ∙ sum-middle partition_bytes front back (partition_of r [])) ∙ sym (sum-without partition_bytes front back);
  }

  pub empty-unset : AreStanding slots old (front ++ (partition_of r [] ∷ back)) listed → link_of old (Slot r) ≡ None
  empty-unset h = (h.entries (partition_of r []) (elem-here front back (partition_of r []))).chain
