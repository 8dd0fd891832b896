-- The first entry and the static row of a version, as they are read in its links.
use Rattle.std.proofs.Common.{◌≡◌, ℕ, List, Some, None, sym, ap, ◌∙◌, subst}
use Rattle.std.specs.Prelude.{◌↔◌}
use Rattle.lsa_store.specs.declared.place.Ref.{Ref}
use Rattle.lsa_region.specs.declared.end.End.{End}
use Rattle.lsa_region.specs.declared.end.End.TheVariants.{Obj, Slot}
use Rattle.lsa_region.specs.declared.end.Root.{Root}
use Rattle.lsa_region.specs.Region.{View, link_of}
use Rattle.lsa_path.specs.laws.Paths.{same_object}
use Rattle.lsa_tree.specs.Search.{first_entry}
use Rattle.rc_core.specs.Version.{Version, EndsWithDummy}
use Rattle.rc_version.specs.Versions.{HoldEntries, IsStaticsOf, IsVersionOf}
use Rattle.rc_version.specs.laws.Holding.{none-held}
use Rattle.rc_version.proofs.StaticRows.{statics-named}
use Rattle.rc_version.proofs.Taken.{first-none}

-- a version has entries
pub never-empty : (v : View) (n : Ref) (refs : List Ref) (c : Version) → IsVersionOf v n refs c → first_entry refs ≡ None → ⊥
never-empty v n refs c h e = subst EndsWithDummy (none-held v c.entries (subst (λ l. HoldEntries v l c.entries) (first-none refs e) h.entries)) h.version.ends

same_name : (s q : Ref) → Some s ≡ Some q → s ≡ q
same_name s q e = cc

module _ (v : View) (n : Ref) where
  pub none-named : (q : Ref) → link_of v (Obj n 3) ≡ None → (None ≡ Some q) ↔ IsStaticsOf v n q
  none-named q unset = ((λ e. cc), (λ k. absurd (let clash : None ≡ Some (Obj q 2) = sym unset ∙ k in cc)))

  module _ (refs : List Ref) (c : Version) (h : IsVersionOf v n refs c) (e : End) (link : link_of v (Obj n 3) ≡ Some e) where
    pub row-named : (s : Ref) (field : ℕ) → e ≡ Obj s field → (q : Ref) → (Some s ≡ Some q) ↔ IsStaticsOf v n q
    row-named s field is q =
        let named = statics-named v n c.statics h.statics e link in
        let same : named.0 ≡ s = same_object named.0 s 2 field (sym named.3 ∙ is) in
        let there : IsStaticsOf v n s = link ∙ ap (λ x. Some x) named.3 ∙ ap (λ z. Some (Obj z 2)) same in
        ((λ k. subst (IsStaticsOf v n) (same_name s q k) there), (λ k. let both : Some (Obj s 2) ≡ Some (Obj q 2) = sym there ∙ k in cc))

    pub never-slot : (root : Root) → e ≡ Slot root → ⊥
    never-slot root is = let named = statics-named v n c.statics h.statics e link in let clash : Obj named.0 2 ≡ Slot root = sym named.3 ∙ is in cc
