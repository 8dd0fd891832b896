-- A version after objects moved, and that an object is one version.
use Rattle.std.proofs.Common.{◌≡◌, ℕ, List, [], ◌∷◌, Option, Some, None, IsSome, is_some, refl, sym, ap, ◌∙◌, subst, map}
use Rattle.std.specs.Prelude.{IsSomeAnd}
use Rattle.std.specs.Option.{option_map}
use Rattle.rc_cell.specs.declared.rows.Row.{Row}
use Rattle.lsa_kinds.specs.declared.kind.Kind.{Kind}
use Rattle.lsa_store.specs.declared.place.Ref.{Ref}
use Rattle.lsa_region.specs.declared.end.End.TheVariants.{Obj}
use Rattle.lsa_region.specs.Ends.{named_as, end_as}
use Rattle.lsa_region.specs.Region.{View, body, IsWell, Renamed}
use Rattle.lsa_path.specs.laws.Renamed.{some-there}
use Rattle.lsa_tree.specs.laws.Trees.{tree-once, tree-renamed}
use Rattle.rc_core.specs.declared.entries.Entry.{Entry}
use Rattle.rc_core.specs.Version.{Version}
use Rattle.rc_object.specs.Objects.{HoldsStatic, SpellsEntry, SpellsHead}
use Rattle.rc_version.specs.Versions.{tree_of, version_head, HasStatics, HoldEntries, IsVersionOf}
use Rattle.rc_version.specs.laws.Objects.{head-once, entry-once, static-once}
use Rattle.rc_version.specs.laws.Staying.{version-kind}

module _ (old new : View) (names : List (Ref × Ref)) (renamed : Renamed old new names) where
  entries_renamed : (refs : List Ref) (es : List Entry) → HoldEntries old refs es → HoldEntries new (map (named_as names) refs) es
  entries_renamed [] [] h = tt
  entries_renamed [] (e ∷ es) h = absurd h
  entries_renamed (r ∷ refs) [] h = absurd h
  entries_renamed (r ∷ refs) (e ∷ es) h = (subst (λ (o : Option (Kind × List ℕ)). IsSomeAnd o (λ b. SpellsEntry b e)) (sym (renamed.bodies r (some-there _ (body old r) h.0))) h.0, entries_renamed refs es h.1)

  statics_renamed : (n : Ref) (row : Option Row) → IsSome (body old n) → HasStatics old n row → HasStatics new (named_as names n) row
  statics_renamed n None live h = renamed.links n 3 live ∙ ap (option_map (end_as names)) h
  statics_renamed n (Some row) live h = (named_as names h.0, renamed.links n 3 live ∙ ap (option_map (end_as names)) h.1, (renamed.bodies h.0 (ap is_some h.2.0) ∙ h.2.0, h.2.1))

  -- it is the same version, under new names
  pub version-renamed : IsWell old → (n : Ref) (refs : List Ref) (c : Version) → IsVersionOf old n refs c → IsVersionOf new (named_as names n) (map (named_as names) refs) c
  version-renamed well n refs c h =
      let live = some-there _ (body old n) (version-kind old n refs c h) in record {
        head = subst (λ (o : Option (Kind × List ℕ)). IsSomeAnd o (λ b. SpellsHead b (version_head c))) (sym (renamed.bodies n live)) h.head;
        statics = statics_renamed n c.statics live h.statics;
        tree = tree-renamed old new names renamed well (tree_of n) refs h.tree;
        entries = entries_renamed refs c.entries h.entries;
        version = h.version;
      }

-- ---- an object is one version

entries_once : (v : View) (refs : List Ref) (es ds : List Entry) → HoldEntries v refs es → HoldEntries v refs ds → es ≡ ds
entries_once v [] [] [] h k = refl
entries_once v [] [] (d ∷ ds) h k = absurd k
entries_once v [] (e ∷ es) ds h k = absurd h
entries_once v (r ∷ refs) [] ds h k = absurd h
entries_once v (r ∷ refs) (e ∷ es) [] h k = absurd k
entries_once v (r ∷ refs) (e ∷ es) (d ∷ ds) h k = λ i. entry-once v r e d h.0 k.0 i ∷ entries_once v refs es ds h.1 k.1 i

statics_once : (v : View) (n : Ref) (r q : Option Row) → HasStatics v n r → HasStatics v n q → r ≡ q
statics_once v n None None h k = refl
statics_once v n None (Some q) h k = absurd (let clash : None ≡ Some (Obj k.0 2) = sym h ∙ k.1 in cc)
statics_once v n (Some r) None h k = absurd (let clash : None ≡ Some (Obj h.0 2) = sym k ∙ h.1 in cc)
statics_once v n (Some r) (Some q) h k =
    let ends : Some (Obj h.0 2) ≡ Some (Obj k.0 2) = sym h.1 ∙ k.1 in let same : h.0 ≡ k.0 = cc in
    ap (λ x. Some x) (static-once v k.0 r q (subst (λ s. HoldsStatic v s r) same h.2) k.2)

pub version-once : (v : View) (n : Ref) (refs rs : List Ref) (c d : Version) → IsVersionOf v n refs c → IsVersionOf v n rs d → (refs ≡ rs) × (c ≡ d)
version-once v n refs rs c d h k =
    let same : refs ≡ rs = tree-once (tree_of n) v refs rs h.tree k.tree in
    let head = head-once v n (version_head c) (version_head d) h.head k.head in
    let statics = statics_once v n c.statics d.statics h.statics k.statics in
    let entries = entries_once v rs c.entries d.entries (subst (λ l. HoldEntries v l c.entries) same h.entries) k.entries in
    (same, λ i. record { pt = (head i).partition_tombstone; statics = statics i; static_flag = (head i).static_flag; entries = entries i; phase = (head i).phase })
