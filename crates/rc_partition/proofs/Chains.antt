-- A step at one partition: a version is put over the others, or taken out, made or freed; what stands beside it.
use Rattle.std.proofs.Common.{◌≡◌, ◌≢◌, ℕ, ◌≤◌, List, [], ◌∷◌, ◌++◌, Option, Some, None, inl, inr, sym, ◌∙◌, subst, reverse, arith}
use Rattle.std.specs.Prelude.{IsSomeAnd, Contains}
use Rattle.lsa_kinds.specs.declared.kind.Kind.TheVariants.{Version as VersionKind}
use Rattle.lsa_store.specs.declared.place.Ref.{Ref}
use Rattle.lsa_region.specs.declared.end.Root.{Root}
use Rattle.lsa_region.specs.declared.end.End.{End}
use Rattle.lsa_region.specs.declared.end.End.TheVariants.{Obj, Slot}
use Rattle.lsa_region.specs.Region.{View, body, link_of, IsEnd, SameObjects}
use Rattle.lsa_region.specs.Paired.{WellPaired}
use Rattle.lsa_path.specs.Path.{IsPath, IsOutside, IsInserted, IsTakenOut, behind}
use Rattle.lsa_path.specs.laws.Members.{all-from_members}
use Rattle.lsa_path.specs.laws.Paths.{same_object, same_some, path-rest, path-same}
use Rattle.rc_core.specs.Version.{Version}
use Rattle.rc_version.specs.Versions.{IsKeptBut, IsOutward, IsVersionOf}
use Rattle.rc_version.specs.laws.Staying.{version-outward}
use Rattle.rc_partition.specs.Partitions.{StandingVersion, PartitionEntry, IsPartitionEntry, IsRowOfVersion, heads_of}
use Rattle.rc_partition.specs.laws.Apart.{row-version, same_root}
use Rattle.rc_partition.specs.laws.Lists.{elem-first, elem-here, elem-later, elem-unreversed}

-- all versions but n stand as they stood, with the links outward of their rows; and so do the partitions of other root slots
pub record IsBeside (n : Ref) (root : Root) (old new : View) : Type 0 where
  pub versions : (m : Ref) (refs : List Ref) (c : Version) → m ≢ n → IsVersionOf old m refs c → IsVersionOf new m refs c
  pub statics : (m : Ref) (refs : List Ref) (c : Version) → m ≢ n → IsVersionOf old m refs c → link_of new (Obj m 3) ≡ link_of old (Obj m 3)
  pub rows : (t : StandingVersion) → t.object ≢ n → IsVersionOf old t.object t.entries t.version → (r : Ref) → IsRowOfVersion old t r → (field : ℕ) → field ≤ 1 → link_of new (Obj r field) ≡ link_of old (Obj r field)
  pub heads : (p : PartitionEntry) → p.root ≢ root → IsPartitionEntry old p → (o : Ref) → Contains (heads_of p.versions) o → link_of new (Obj o 0) ≡ link_of old (Obj o 0)
  pub slots : (s : Root) → s ≢ root → link_of new (Slot s) ≡ link_of old (Slot s)
  pub there : (s : Root) → IsEnd old (Slot s) → IsEnd new (Slot s)

pub kept-beside : (n : Ref) (root : Root) (old new : View) → IsKeptBut n old new → IsBeside n root old new
kept-beside n root old new kept = record {
  versions = kept.versions;
  statics = kept.statics;
  rows = λ t ne k r row field low. kept.links (Obj r field) low;
  heads = λ p ne k o on. kept.links (Obj o 0) (omega arith);
  slots = λ s ne. kept.links (Slot s) tt;
  there = kept.roots;
}

module _ (n : Ref) (root : Root) (old new : View) (step : IsBeside n root old new) where
  pub rows-beside : (t : StandingVersion) → t.object ≢ n → IsVersionOf old t.object t.entries t.version → (r : Ref) → IsRowOfVersion old t r → IsRowOfVersion new t r
  rows-beside t ne k r (inl on) = inl on
  rows-beside t ne k r (inr link) = inr (step.statics t.object t.entries t.version ne k ∙ link)

  pub rows-were : (t : StandingVersion) → t.object ≢ n → IsVersionOf old t.object t.entries t.version → (r : Ref) → IsRowOfVersion new t r → IsRowOfVersion old t r
  rows-were t ne k r (inl on) = inl on
  rows-were t ne k r (inr link) = inr (sym (step.statics t.object t.entries t.version ne k) ∙ link)

  -- another partition
  pub entry-beside : (p : PartitionEntry) → p.root ≢ root → ((t : StandingVersion) → Contains p.versions t → t.object ≢ n) → IsPartitionEntry old p → IsPartitionEntry new p
  entry-beside p ne apart k = record {
    slot = step.there p.root k.slot;
    chain = path-same 1 0 (link_of old) (link_of new) (Slot p.root) (reverse (heads_of p.versions)) None (step.slots p.root ne)
        (all-from_members 0 (λ e. link_of new e ≡ link_of old e) (reverse (heads_of p.versions)) (λ o on. step.heads p ne k o (elem-unreversed (heads_of p.versions) o on))) k.chain;
    versions = λ t on. step.versions t.object t.entries t.version (apart t on) (k.versions t on);
  }

pub beside-then : (n : Ref) (root : Root) (old mid new : View) → IsBeside n root old mid → IsBeside n root mid new
    → ((p : PartitionEntry) → p.root ≢ root → IsPartitionEntry old p → (t : StandingVersion) → Contains p.versions t → t.object ≢ n) → IsBeside n root old new
beside-then n root old mid new a b apart = record {
  versions = λ m refs c ne k. b.versions m refs c ne (a.versions m refs c ne k);
  statics = λ m refs c ne k. b.statics m refs c ne (a.versions m refs c ne k) ∙ a.statics m refs c ne k;
  rows = λ t ne k r row field low. b.rows t ne (a.versions t.object t.entries t.version ne k) r (rows-beside n root old mid a t ne k r row) field low ∙ a.rows t ne k r row field low;
  heads = λ p ne k o on. b.heads p ne (entry-beside n root old mid a p ne (apart p ne k) k) o on ∙ a.heads p ne k o on;
  slots = λ s ne. b.slots s ne ∙ a.slots s ne;
  there = λ s k. b.there s (a.there s k);
}

-- ---- a step of links

-- only the root slot and links of these versions to one another are changed
pub record IsChainStep (root : Root) (objects : List Ref) (old new : View) : Type 0 where
  pub outside : (e : End) → IsOutside 1 0 e → Slot root ≢ e → link_of new e ≡ link_of old e
  pub others : (r : Ref) (field : ℕ) → (Contains objects r → ⊥) → link_of new (Obj r field) ≡ link_of old (Obj r field)
  pub same : SameObjects old new

inward_outside : (e : End) → (IsOutward e → ⊥) → IsOutside 1 0 e
inward_outside (Obj r field) far = ((λ is. far (omega (arith, is))), (λ is. far (omega (arith, is))))
inward_outside (Slot s) far = tt

inward_apart : (root : Root) (e : End) → (IsOutward e → ⊥) → Slot root ≢ e
inward_apart root (Obj r field) far = λ is. cc
inward_apart root (Slot s) far = absurd (far tt)

module _ (root : Root) (objects : List Ref) (old new : View) (step : IsChainStep root objects old new) where
  pub chain-version : (m : Ref) (refs : List Ref) (c : Version) → IsVersionOf old m refs c → IsVersionOf new m refs c
  chain-version m refs c k = version-outward old new m refs c (λ e far. step.outside e (inward_outside e far) (inward_apart root e far)) step.same.bodies k

  pub chain-static : (m : Ref) → link_of new (Obj m 3) ≡ link_of old (Obj m 3)
  chain-static m = step.outside (Obj m 3) ((λ e. cc), (λ e. cc)) (λ e. cc)

  pub chain-beside : (n : Ref) → ((o : Ref) → Contains objects o → IsSomeAnd (body old o) (λ b. b.0 ≡ VersionKind))
      → ((p : PartitionEntry) → p.root ≢ root → IsPartitionEntry old p → (o : Ref) → Contains (heads_of p.versions) o → Contains objects o → ⊥) → IsBeside n root old new
  chain-beside n kinds apart = record {
    versions = λ m refs c ne k. chain-version m refs c k;
    statics = λ m refs c ne k. chain-static m;
    rows = λ t ne k r row field low. step.others r field (λ on. row-version old t k r row (kinds r on));
    heads = λ p ne k o on. step.others o 0 (apart p ne k o on);
    slots = λ s ne. step.outside (Slot s) tt (λ e. ne (sym (same_root root s e)));
    there = λ s k. step.same.ends (Slot s) k;
  }

-- ---- put over the others, and taken out

onward_mate : (named : End → Option End) (s : End) (xs : List Ref) (r : Ref) (f : ℕ) → IsPath 1 0 named s xs None → named s ≡ Some (Obj r f) → Contains xs r
onward_mate named s [] r f p is = absurd (let clash : None ≡ Some (Obj r f) = sym p ∙ is in cc)
onward_mate named s (x ∷ xs) r f p is = subst (Contains (x ∷ xs)) (same_object x r 1 f (same_some (Obj x 1) (Obj r f) (sym p.0 ∙ is))) (elem-first x xs)

behind_mate : (s : Root) (xs ys : List Ref) (r : Ref) (f : ℕ) → behind 0 (Slot s) xs ≡ Obj r f → Contains (xs ++ ys) r
behind_mate s [] ys r f is = cc is
behind_mate s (x ∷ xs) ys r f is = from_head x xs is
  where
    from_head : (x : Ref) (xs : List Ref) → behind 0 (Obj x 0) xs ≡ Obj r f → Contains (x ∷ (xs ++ ys)) r
    from_head x [] is = subst (Contains (x ∷ ys)) (same_object x r 0 f is) (elem-first x ys)
    from_head x (y ∷ xs) is = elem-later x r (y ∷ (xs ++ ys)) (from_head y xs is)

module _ (root : Root) (old new : View) (same : SameObjects old new) where
  pub inserted-step : (n : Ref) (xs : List Ref) → IsPath 1 0 (link_of old) (Slot root) xs None → IsInserted (link_of old) (link_of new) (Slot root) (Obj n 1) (Obj n 0)
      → ((e : End) → IsOutside 1 0 e → Slot root ≢ e → link_of new e ≡ link_of old e) → IsChainStep root (n ∷ xs) old new
  inserted-step n xs path ins outside = record {
    outside = outside;
    others = λ r field off. ins.others (Obj r field) (λ e. cc) (λ e. off (subst (Contains (n ∷ xs)) (sym (same_object r n field 1 e)) (elem-first n xs))) (λ e. off (subst (Contains (n ∷ xs)) (sym (same_object r n field 0 e)) (elem-first n xs)))
        (λ e. off (elem-later n r xs (onward_mate (link_of old) (Slot root) xs r field path e)));
    same = same;
  }

  pub taken-step : WellPaired (link_of old) → (n : Ref) (xs ys : List Ref) → IsPath 1 0 (link_of old) (Slot root) (xs ++ (n ∷ ys)) None → IsTakenOut (link_of old) (link_of new) (Obj n 1) (Obj n 0)
      → ((e : End) → IsOutside 1 0 e → Slot root ≢ e → link_of new e ≡ link_of old e) → IsChainStep root (xs ++ (n ∷ ys)) old new
  taken-step well n xs ys path out outside =
      let rest = path-rest 1 0 (link_of old) (Slot root) xs (n ∷ ys) None path in record {
        outside = outside;
        others = λ r field off. out.others (Obj r field) (λ e. off (subst (Contains (xs ++ (n ∷ ys))) (sym (same_object r n field 1 e)) (elem-here xs ys n))) (λ e. off (subst (Contains (xs ++ (n ∷ ys))) (sym (same_object r n field 0 e)) (elem-here xs ys n)))
            (λ e. off (behind_mate root xs (n ∷ ys) r field (same_some (behind 0 (Slot root) xs) (Obj r field) (sym (well.mates (behind 0 (Slot root) xs) (Obj n 1) rest.0) ∙ e))))
            (λ e. off (elem-behind xs ys n r (onward_mate (link_of old) (Obj n 0) ys r field rest.1 e)));
        same = same;
      }
    where
      elem-behind : (xs ys : List Ref) (n r : Ref) → Contains ys r → Contains (xs ++ (n ∷ ys)) r
      elem-behind [] ys n r on = elem-later n r ys on
      elem-behind (x ∷ xs) ys n r on = elem-later x r (xs ++ (n ∷ ys)) (elem-behind xs ys n r on)
