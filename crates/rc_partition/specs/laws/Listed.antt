-- The recency list changed beside partitions.
use Rattle.std.proofs.Common.{◌≡◌, ◌≢◌, ℕ, zero, suc, ◌≤◌, List, [], ◌∷◌, ◌++◌, Option, Some, None, inl, inr, refl, sym, ap, ◌∙◌, subst, reverse, arith}
use Rattle.std.specs.Prelude.{IsSomeAnd, IfSome, Contains}
use Rattle.lsa_kinds.specs.declared.kind.Kind.{Kind}
use Rattle.lsa_kinds.specs.declared.kind.Kind.TheVariants.{Version as VersionKind, RowEntry, Dummy, Static}
use Rattle.lsa_pool.specs.Room.{live_sum}
use Rattle.lsa_store.specs.declared.place.Ref.{Ref}
use Rattle.lsa_region.specs.declared.end.End.{End}
use Rattle.lsa_region.specs.declared.end.End.TheVariants.{Obj, Slot}
use Rattle.lsa_region.specs.Region.{View, body, link_of, SameObjects}
use Rattle.lsa_region.specs.laws.Refs.{refs_decided}
use Rattle.lsa_path.specs.Roles.{role_of, LessRecent, MoreRecent}
use Rattle.lsa_path.specs.laws.Members.{all-from_members}
use Rattle.lsa_path.specs.laws.Paths.{path-same, same_object}
use Rattle.lsa_list.specs.declared.recency.List.{List as Slots}
use Rattle.lsa_list.specs.Recency.{IsElsewhere, IsList}
use Rattle.rc_version.specs.Versions.{IsOutward, IsVersionOf, IsUnlisted}
use Rattle.rc_version.specs.laws.Staying.{version-kind, version-outward}
use Rattle.rc_partition.specs.Partitions.{StandingVersion, PartitionEntry, AreStanding, IsPartitionEntry, IsRowOfVersion, IsRowOfAny, heads_of}
use Rattle.rc_partition.specs.laws.Lists.{elem-here, elem-left, elem-mapped, elem-pushed, elem-replaced, elem-still, elem-unreversed}

-- ---- ends that are none of a recency list

version_far : (kind : Kind) (f : ℕ) → kind ≡ VersionKind → (role_of kind f ≢ LessRecent) × (role_of kind f ≢ MoreRecent)
version_far kind f is = subst (λ k. (role_of k f ≢ LessRecent) × (role_of k f ≢ MoreRecent)) (sym is) (version_roles f)
  where
    version_roles : (f : ℕ) → (role_of VersionKind f ≢ LessRecent) × (role_of VersionKind f ≢ MoreRecent)
    version_roles zero = ((λ e. cc), (λ e. cc))
    version_roles (suc zero) = ((λ e. cc), (λ e. cc))
    version_roles (suc (suc zero)) = ((λ e. cc), (λ e. cc))
    version_roles (suc (suc (suc zero))) = ((λ e. cc), (λ e. cc))
    version_roles (suc (suc (suc (suc f)))) = ((λ e. cc), (λ e. cc))

version_in : (o : Option (Kind × List ℕ)) (f : ℕ) → IsSomeAnd o (λ b. b.0 ≡ VersionKind) → IfSome o (λ b. (role_of b.0 f ≢ LessRecent) × (role_of b.0 f ≢ MoreRecent))
version_in None f h = tt
version_in (Some b) f h = version_far b.0 f h

-- each link of a version is
pub version-elsewhere : (slots : Slots) (v : View) (n : Ref) (f : ℕ) → IsSomeAnd (body v n) (λ b. b.0 ≡ VersionKind) → IsElsewhere slots v (Obj n f)
version-elsewhere slots v n f h = version_in (body v n) f h

far_roles : (kind : Kind) (f : ℕ) → (f ≤ 1 → ⊥) → (role_of kind f ≢ LessRecent) × (role_of kind f ≢ MoreRecent)
far_roles kind zero far = absurd (far (omega arith))
far_roles kind (suc zero) far = absurd (far (omega arith))
far_roles VersionKind (suc (suc f)) far = version_far VersionKind (suc (suc f)) refl
far_roles RowEntry (suc (suc zero)) far = ((λ e. cc), (λ e. cc))
far_roles RowEntry (suc (suc (suc zero))) far = ((λ e. cc), (λ e. cc))
far_roles RowEntry (suc (suc (suc (suc zero)))) far = ((λ e. cc), (λ e. cc))
far_roles RowEntry (suc (suc (suc (suc (suc f))))) far = ((λ e. cc), (λ e. cc))
far_roles Dummy (suc (suc zero)) far = ((λ e. cc), (λ e. cc))
far_roles Dummy (suc (suc (suc zero))) far = ((λ e. cc), (λ e. cc))
far_roles Dummy (suc (suc (suc (suc zero)))) far = ((λ e. cc), (λ e. cc))
far_roles Dummy (suc (suc (suc (suc (suc f))))) far = ((λ e. cc), (λ e. cc))
far_roles Static (suc (suc zero)) far = ((λ e. cc), (λ e. cc))
far_roles Static (suc (suc (suc f))) far = ((λ e. cc), (λ e. cc))

far_in : (o : Option (Kind × List ℕ)) (f : ℕ) → (f ≤ 1 → ⊥) → IfSome o (λ b. (role_of b.0 f ≢ LessRecent) × (role_of b.0 f ≢ MoreRecent))
far_in None f far = tt
far_in (Some b) f far = far_roles b.0 f far

-- each link that holds a version together is
pub inward-elsewhere : (slots : Slots) (v : View) (e : End) → (IsOutward e → ⊥) → IsElsewhere slots v e
inward-elsewhere slots v (Obj r f) far = far_in (body v r) f far
inward-elsewhere slots v (Slot s) far = absurd (far tt)

-- ---- partitions

module _ (slots : Slots) (old new : View) (elsewhere : (e : End) → IsElsewhere slots old e → link_of new e ≡ link_of old e) (objects : SameObjects old new) where
  version_kept : (t : StandingVersion) → IsVersionOf old t.object t.entries t.version → IsVersionOf new t.object t.entries t.version
  version_kept t k = version-outward old new t.object t.entries t.version (λ e far. elsewhere e (inward-elsewhere slots old e far)) objects.bodies k

  rows_kept : (t : StandingVersion) → IsVersionOf old t.object t.entries t.version → (r : Ref) → IsRowOfVersion old t r → IsRowOfVersion new t r
  rows_kept t k r (inl on) = inl on
  rows_kept t k r (inr link) = inr (elsewhere (Obj t.object 3) (version-elsewhere slots old t.object 3 (version-kind old t.object t.entries t.version k)) ∙ link)

  rows_back : (t : StandingVersion) → IsVersionOf old t.object t.entries t.version → (r : Ref) → IsRowOfVersion new t r → IsRowOfVersion old t r
  rows_back t k r (inl on) = inl on
  rows_back t k r (inr link) = inr (sym (elsewhere (Obj t.object 3) (version-elsewhere slots old t.object 3 (version-kind old t.object t.entries t.version k))) ∙ link)

  entry_kept : (p : PartitionEntry) → (p.root ≢ slots.front) × (p.root ≢ slots.back) → IsPartitionEntry old p → IsPartitionEntry new p
  entry_kept p apart k = record {
    slot = objects.ends (Slot p.root) k.slot;
    chain = path-same 1 0 (link_of old) (link_of new) (Slot p.root) (reverse (heads_of p.versions)) None (elsewhere (Slot p.root) apart) (all-from_members 0 (λ e. link_of new e ≡ link_of old e) (reverse (heads_of p.versions))
        (λ r on. let t = elem-mapped (λ (s : StandingVersion). s.object) p.versions r (elem-unreversed (heads_of p.versions) r on) in
        elsewhere (Obj r 0) (version-elsewhere slots old r 0 (subst (λ q. IsSomeAnd (body old q) (λ b. b.0 ≡ VersionKind)) t.2 (version-kind old t.0.object t.0.entries t.0.version (k.versions t.0 t.1)))))) k.chain;
    versions = λ t on. version_kept t (k.versions t on);
  }

  module _ (partitions : List PartitionEntry) (xs : List Ref) (h : AreStanding slots old partitions xs) where
    row_of : (r : Ref) → IsRowOfAny old partitions r → IsRowOfAny new partitions r
    row_of r w = (w.0, w.1, w.2, w.3, rows_kept w.1 ((h.entries w.0 w.2).versions w.1 w.3) r w.4)

    row_was : (r : Ref) → IsRowOfAny new partitions r → IsRowOfAny old partitions r
    row_was r w = (w.0, w.1, w.2, w.3, rows_back w.1 ((h.entries w.0 w.2).versions w.1 w.3) r w.4)

    -- another list, of rows, with all others in no list
    pub stands-listed : (ys : List Ref) → IsList slots new ys → ((r : Ref) → Contains ys r → IsRowOfAny old partitions r) → ((r : Ref) → IsRowOfAny old partitions r → (Contains ys r → ⊥) → IsUnlisted new r) → AreStanding slots new partitions ys
    stands-listed ys list owned unlisted = record {
      apart = h.apart;
      beside = h.beside;
      entries = λ p on. entry_kept p (h.beside p on) (h.entries p on);
      list = list;
      owned = λ r on. row_of r (owned r on);
      unlisted = λ r w off. unlisted r (row_was r w) off;
      whole = ap (λ us. live_sum us) objects.usages ∙ h.whole;
    }

    -- one at the back
    pub stands-pushed : (r : Ref) → IsList slots new (xs ++ (r ∷ [])) → IsRowOfAny old partitions r → ((e : End) → link_of old e ≡ None → e ≢ Obj r 0 → e ≢ Obj r 1 → link_of new e ≡ None) → AreStanding slots new partitions (xs ++ (r ∷ []))
    stands-pushed r list row unset = stands-listed (xs ++ (r ∷ [])) list
        (λ q on. elim (elem-pushed xs r q on) [ inl before ↦ h.owned q before | inr same ↦ subst (IsRowOfAny old partitions) same row ])
        (λ q w off field low. unset (Obj q field) (h.unlisted q w (λ before. off (elem-left xs (r ∷ []) q before)) field low)
        (λ e. off (subst (Contains (xs ++ (r ∷ []))) (sym (same_object q r field 0 e)) (elem-here xs [] r))) (λ e. off (subst (Contains (xs ++ (r ∷ []))) (sym (same_object q r field 1 e)) (elem-here xs [] r))))

  module _ (partitions : List PartitionEntry) (xs ys : List Ref) (r : Ref) (h : AreStanding slots old partitions (xs ++ (r ∷ ys))) where
    -- one taken out
    pub stands-removed : IsList slots new (xs ++ ys) → link_of new (Obj r 0) ≡ None → link_of new (Obj r 1) ≡ None → ((e : End) → link_of old e ≡ None → link_of new e ≡ None) → AreStanding slots new partitions (xs ++ ys)
    stands-removed list first second unset = stands-listed partitions (xs ++ (r ∷ ys)) h (xs ++ ys) list (λ q on. h.owned q (elem-still xs ys r q on))
        (λ q w off. elim (refs_decided r q) [
          | inl same ↦ subst (IsUnlisted new) same (both_unset r first second)
          | inr ne ↦ λ field low. unset (Obj q field) (h.unlisted q w (λ on. elim (elem-replaced xs ys r q on) [ inl same ↦ ne same | inr beside ↦ off beside ]) field low)
        ])
      where
        both_unset : (q : Ref) → link_of new (Obj q 0) ≡ None → link_of new (Obj q 1) ≡ None → IsUnlisted new q
        both_unset q a b zero low = a
        both_unset q a b (suc zero) low = b
        both_unset q a b (suc (suc field)) low = absurd (omega (arith, low))

    -- one moved to the back
    pub stands-touched : IsList slots new ((xs ++ ys) ++ (r ∷ [])) → ((e : End) → link_of old e ≡ None → link_of new e ≡ None) → AreStanding slots new partitions ((xs ++ ys) ++ (r ∷ []))
    stands-touched list unset = stands-listed partitions (xs ++ (r ∷ ys)) h ((xs ++ ys) ++ (r ∷ [])) list
        (λ q on. elim (elem-pushed (xs ++ ys) r q on) [ inl before ↦ h.owned q (elem-still xs ys r q before) | inr same ↦ h.owned q (subst (Contains (xs ++ (r ∷ ys))) same (elem-here xs ys r)) ])
        (λ q w off field low. unset (Obj q field) (h.unlisted q w (λ on. elim (elem-replaced xs ys r q on) [
          | inl same ↦ off (subst (Contains ((xs ++ ys) ++ (r ∷ []))) same (elem-here (xs ++ ys) [] r))
          | inr beside ↦ off (elem-left (xs ++ ys) (r ∷ []) q beside)
        ]) field low))
