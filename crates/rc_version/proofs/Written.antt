-- A version after the bytes of one of its objects were changed.
use Rattle.std.proofs.Common.{◌≡◌, ◌≢◌, ℕ, List, ◌∷◌, ◌++◌, Option, Some, None, IsSome, ◌⊎◌, inl, inr, refl, sym, ap, ◌∙◌, subst}
use Rattle.std.specs.Prelude.{IsSomeAnd, Contains}
use Rattle.std.proofs.lemmas.List.Elements.{Contains-append_left, Contains-append_right}
use Rattle.lsa_kinds.specs.declared.kind.Kind.TheVariants.{Version as VersionKind}
use Rattle.lsa_pool.specs.Room.{live_sum}
use Rattle.lsa_store.specs.declared.place.Ref.{Ref}
use Rattle.lsa_region.specs.declared.end.End.{End}
use Rattle.lsa_region.specs.declared.end.End.TheVariants.{Obj}
use Rattle.lsa_region.specs.Region.{View, body, link_of, live_bytes, IsWell, IsWritten}
use Rattle.lsa_region.specs.laws.Refs.{refs_decided}
use Rattle.lsa_path.specs.laws.Members.{member-here}
use Rattle.lsa_tree.specs.Entries.{IsEntryKind, IsReadAlike}
use Rattle.lsa_tree.specs.Tree.{IsTree}
use Rattle.lsa_tree.specs.laws.Orders.{ascending-split, ascending-stands, never-at}
use Rattle.lsa_tree.specs.laws.Trees.{same-read, tree-unlinked, tree-written_beside, written-version}
use Rattle.rc_core.specs.Continuity.{with_entries}
use Rattle.rc_core.specs.declared.entries.Entry.{Entry}
use Rattle.rc_core.specs.Version.{Version, IsVersion}
use Rattle.rc_object.specs.Objects.{HoldsEntry, HoldsHead, IsRewritten}
use Rattle.rc_version.specs.Versions.{tree_of, version_head, HasStatics, HoldEntries, IsVersionOf, IsKeptBeside, IsKeptBut, IsNoneMade, IsStaticsOf, HasWhatWasMade, MayChange}
use Rattle.rc_version.specs.laws.Objects.{head-same, holds-same, static-no_version, static-no_entry}
use Rattle.rc_version.specs.laws.Holding.{hold-both, hold-kept, replaced-is}
use Rattle.rc_version.specs.laws.Marked.{none-there, none-written}
use Rattle.rc_version.specs.laws.Staying.{version-kind, entries-kind, head-beside, head-written, entry-written, statics-stay}

-- an entry stands once among the entries
pub entry-beside : (v : View) (n : Ref) (front back : List Ref) (r : Ref) → IsTree (tree_of n) v (front ++ (r ∷ back)) → Contains (front ++ back) r → ⊥
entry-beside v n front back r h k =
    let at = ascending-stands v (front ++ (r ∷ back)) r h.ascending (member-here front back r) in
    never-at v at.0 r (front ++ back) k front back refl (ascending-split v front back r at.0 at.1 h.ascending) at.1

pub none_or_some : {X : Type 0} (o : Option X) → (o ≡ None) ⊎ IsSome o
none_or_some None = inl refl
none_or_some (Some x) = inr refl

module _ (v w : View) (r : Ref) (rewritten : IsRewritten v w r) where
  abbrev change : List ℕ → List ℕ
  change = rewritten.0.0

  written : IsWritten v w r change
  written = rewritten.0.1

  -- the numbers stay
  pub rewritten-live : live_bytes w ≡ live_bytes v
  rewritten-live = ap (λ us. live_sum us) written.usages

  pub rewritten-others : (q : Ref) → q ≢ r → body w q ≡ body v q
  rewritten-others = written.others

  pub rewritten-none : IsNoneMade v w
  rewritten-none = none-written v w r change written

  pub rewritten-link : (e : End) → link_of w e ≡ link_of v e
  rewritten-link = written.links

  pub rewritten-usages : w.usages ≡ v.usages
  rewritten-usages = written.usages

  -- ---- the head of a version

  module _ (refs : List Ref) (c : Version) (h : IsVersionOf v r refs c) where
    pub head-kept_by : (these : Ref → Type 0) → these r → IsKeptBeside these r v w
    head-kept_by these this = head-written v w r change written these this (version-kind v r refs c h)

    pub head-kept : IsKeptBut r v w
    head-kept = head-written v w r change written (MayChange v r) (inr (inl refl)) (version-kind v r refs c h)

    pub head-version : (d : Version) → d.statics ≡ c.statics → d.entries ≡ c.entries → HoldsHead w r (version_head d) → IsVersion d → IsVersionOf w r refs d
    head-version d statics entries head is = record {
      head = head;
      statics = subst (HasStatics w r) (sym statics) (statics-stay v w r c.statics (written.links (Obj r 3))
          (λ s row link k. written.others s (λ is. static-no_version v s row k (subst (λ q. IsSomeAnd (body v q) (λ b. b.0 ≡ VersionKind)) (sym is) (version-kind v r refs c h)))) h.statics);
      tree = tree-written_beside v w r change written (tree_of r) refs (head-beside v r refs c h) h.tree;
      entries = subst (HoldEntries w refs) (sym entries) (hold-kept v w refs c.entries (λ q e k hold. holds-same v w q e (written.others q (λ is. head-beside v r refs c h (subst (Contains refs) is k))) hold) h.entries);
      version = is;
    }

  -- ---- an entry of one

  module _ (alike : IsReadAlike (body v r) (body w r)) where
    read_alike : (q : Ref) → IsReadAlike (body v q) (body w q)
    read_alike q = elim (refs_decided q r) [
      | inl is ↦ subst (λ x. IsReadAlike (body v x) (body w x)) (sym is) alike
      | inr ne ↦ same-read (body v q) (body w q) (written.others q ne)
    ]

    module _ (n : Ref) (refs : List Ref) (c : Version) (h : IsVersionOf v n refs c) where
      pub marked-kept_by : (these : Ref → Type 0) → these r → IsWell v → Contains refs r → IsKeptBeside these n v w
      marked-kept_by these this well k = entry-written v w r change written these n well refs h.tree k this

      pub marked-kept : IsWell v → Contains refs r → IsKeptBut n v w
      marked-kept well k = entry-written v w r change written (MayChange v n) n well refs h.tree k (inr (inr (inl (refs, h.tree, k))))

      module _ (front back : List Ref) (is : refs ≡ front ++ (r ∷ back)) where
        here : Contains refs r
        here = subst (λ l. Contains l r) (sym is) (member-here front back r)

        others : (q : Ref) (e : Entry) → Contains (front ++ back) q → HoldsEntry v q e → HoldsEntry w q e
        others q e k hold = holds-same v w q e (written.others q (λ same. entry-beside v n front back r (subst (IsTree (tree_of n) v) is h.tree) (subst (Contains (front ++ back)) same k))) hold

        -- the other entries hold what they held
        pub marked-others : (q : Ref) (e : Entry) → Contains (front ++ back) q → HoldsEntry v q e → HoldsEntry w q e
        marked-others = others

        pub marked-version : (before : List Entry) (e d : Entry) (behind : List Entry) → c.entries ≡ before ++ (e ∷ behind) → HoldEntries v front before → HoldEntries v back behind → d.position ≡ e.position → d.row ≡ e.row → HoldsEntry w r d
            → IsVersionOf w n refs (with_entries (before ++ (d ∷ behind)) c)
        marked-version before e d behind entries ahead later at row held = record {
          head = head-same v w n (version_head c) (written.others n not_head) h.head;
          statics = statics-stay v w n c.statics (written.links (Obj n 3)) (λ s r' link k. written.others s (λ same. static-no_entry v s r' k (subst (λ q. IsSomeAnd (body v q) (λ b. IsEntryKind b.0)) (sym same) (entries-kind v n refs c h r here)))) h.statics;
          tree = tree-unlinked (tree_of n) v w refs written.links (written-version v w r change written) (λ q k. read_alike q) h.tree;
          entries = subst (λ l. HoldEntries w l (before ++ (d ∷ behind))) (sym is) (hold-both w front (r ∷ back) before (d ∷ behind)
              (hold-kept v w front before (λ q x k hold. others q x (Contains-append_left front back q k) hold) ahead)
              (held, hold-kept v w back behind (λ q x k hold. others q x (Contains-append_right front back q k) hold) later));
          version = replaced-is before e d behind c at row (subst (λ es. IsVersion (with_entries es c)) entries h.version);
        }
          where
            not_head : n ≢ r
            not_head same = head-beside v n refs c h (subst (Contains refs) (sym same) here)

-- a static row was made and put in, and then the bytes of an object were changed
pub own-rewritten : (old mid new : View) (n s : Ref) → IsRewritten mid new n → IsStaticsOf mid n s → ((q : Ref) → body old q ≡ None → IsSome (body mid q) → q ≡ s) → HasWhatWasMade n old new
own-rewritten old mid new n s rewritten named only q fresh there = elim (none_or_some (body mid q)) [
  | inl gone ↦ absurd (none-there (body new q) (rewritten-none mid new n rewritten q gone) there)
  | inr here ↦ inr (inr (subst (IsStaticsOf new n) (sym (only q fresh here)) (rewritten-link mid new n rewritten (Obj n 3) ∙ named)))
]
