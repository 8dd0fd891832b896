-- A version that a slot names, and its entries, after each change.
use Rattle.std.proofs.Common.{◌≡◌, ◌≢◌, ℕ, zero, suc, ◌<◌, ◌≤◌, List, [], ◌∷◌, ◌++◌, Option, Some, None, IsSome, refl, sym, ap, ◌∙◌, subst, map, arith}
use Rattle.std.specs.Prelude.{IsSomeAnd}
use Rattle.std.specs.Option.{option_map}
use Rattle.std.proofs.lemmas.List.{append_assoc}
use Rattle.lsa_kinds.specs.declared.kind.Kind.{Kind}
use Rattle.lsa_kinds.specs.declared.kind.Kind.TheVariants.{Version, RowEntry, Dummy, Static}
use Rattle.lsa_kinds.specs.Kinds.{links_of}
use Rattle.lsa_store.specs.declared.place.Ref.{Ref}
use Rattle.lsa_region.specs.declared.end.Root.{Root}
use Rattle.lsa_region.specs.declared.end.End.{End}
use Rattle.lsa_region.specs.declared.end.End.TheVariants.{Obj, Slot}
use Rattle.lsa_region.specs.Ends.{named_as, end_as}
use Rattle.lsa_region.specs.Region.{View, body, link_of, IsEnd, IsWell, IsAdded, IsFreed, Renamed}
use Rattle.lsa_region.specs.Paired.{IsTied}
use Rattle.lsa_region.specs.laws.Ends.{no-end, few-links}
use Rattle.lsa_path.specs.laws.Members.{member-here}
use Rattle.lsa_path.specs.laws.Renamed.{some-there}
use Rattle.lsa_tree.specs.declared.tree.Tree.{Tree}
use Rattle.lsa_tree.specs.Search.{first_entry, last_entry, last_entry_from}
use Rattle.lsa_tree.specs.Tree.{IsTop, IsTree, IsLoose, IsOffTree, tree_as}
use Rattle.lsa_tree.specs.laws.Trees.{entry-end, tree-entry, tree-added, tree-freed, tree-renamed, tree-empty, loose-beside, no_entry_at}
use Rattle.lsa_tree_tests.specs.Walking.{HoldsTree, IsHome, IsTreeEntry}

-- ---- one of the entries

module _ (tree : Tree) (v : View) where
  pub one-first : (refs : List Ref) → IsTree tree v refs → (o : Option Ref) → o ≡ first_entry refs → IsTreeEntry tree v o
  one-first [] h o e = subst (IsTreeEntry tree v) (sym e) tt
  one-first (r ∷ refs) h o e = subst (IsTreeEntry tree v) (sym e) ([], refs, h)

  pub one-next : (front back : List Ref) (r : Ref) → IsTree tree v (front ++ (r ∷ back)) → (o : Option Ref) → o ≡ first_entry back → IsTreeEntry tree v o
  one-next front [] r h o e = subst (IsTreeEntry tree v) (sym e) tt
  one-next front (q ∷ back) r h o e = subst (IsTreeEntry tree v) (sym e) (front ++ (r ∷ []), back, subst (IsTree tree v) (sym (append_assoc front (r ∷ []) (q ∷ back))) h)

  last_split : (x : Ref) (xs : List Ref) → (rest : List Ref) × (q : Ref) × (x ∷ xs ≡ rest ++ (q ∷ [])) × (last_entry_from (Some x) xs ≡ Some q)
  last_split x [] = ([], x, refl, refl)
  last_split x (y ∷ ys) = let w = last_split y ys in (x ∷ w.0, w.1, ap (λ l. x ∷ l) w.2, w.3)

  pub one-last : (front back : List Ref) (r : Ref) → IsTree tree v (front ++ (r ∷ back)) → (o : Option Ref) → o ≡ last_entry front → IsTreeEntry tree v o
  one-last [] back r h o e = subst (IsTreeEntry tree v) (sym e) tt
  one-last (x ∷ front) back r h o e =
      let w = last_split x front in
      subst (IsTreeEntry tree v) (sym (e ∙ w.3)) (w.0, r ∷ back, subst (IsTree tree v) (ap (λ l. l ++ (r ∷ back)) w.2 ∙ append_assoc w.0 (w.1 ∷ []) (r ∷ back)) h)

  pub one-there : (front back : List Ref) (r : Ref) → IsTree tree v (front ++ (r ∷ back)) → IsSome (body v r)
  one-there front back r h = some-there _ (body v r) (tree-entry tree v (front ++ (r ∷ back)) r h (member-here front back r))

-- a root slot is no link of a tree
pub slot-off : (v : View) (slot : Root) → IsOffTree v (Slot slot)
slot-off v slot = ((λ e. cc), (λ e. cc), (λ e. cc), (λ e. cc))

-- ---- a version that the slot names

pub held-kept : (slot : Root) (v w : View) (tree : Tree) (refs now : List Ref) → HoldsTree slot v tree refs → link_of w (Slot slot) ≡ link_of v (Slot slot) → IsTree tree w now → HoldsTree slot w tree now
held-kept slot v w tree refs now h same holds = record { version = h.version; named = same ∙ h.named; top = h.top; holds = holds }

pub held-as : (slot : Root) (v : View) (tree : Tree) (refs now : List Ref) → HoldsTree slot v tree refs → refs ≡ now → HoldsTree slot v tree now
held-as slot v tree refs now h same = subst (HoldsTree slot v tree) same h

pub home-kept : (slot : Root) (v w : View) (tree : Tree) (refs now : List Ref) → HoldsTree slot v tree refs → link_of w (Slot slot) ≡ link_of v (Slot slot) → IsTree tree w now → IsHome slot w
home-kept slot v w tree refs now h same holds = (tree, now, held-kept slot v w tree refs now h same holds)

pub slot-there : (slot : Root) (v : View) → IsWell v → IsHome slot v → IsEnd v (Slot slot)
slot-there slot v well h = let held = h.2 in well.ends (Obj held.version 1) (Slot slot) (well.paired.mates (Slot slot) (Obj held.version 1) held.named)

pub home-added : (slot : Root) (v w : View) (r : Ref) (kind : Kind) (bytes : List ℕ) → IsAdded v w r kind bytes → IsHome slot v → IsHome slot w
home-added slot v w r kind bytes added h = home-kept slot v w h.0 h.1 h.1 h.2 (added.links (Slot slot)) (tree-added h.0 v w r kind bytes added h.1 h.2.holds)

version_at : (v : View) (e : End) (r : Ref) → IsTop v e → e ≡ Obj r 2 → IsSomeAnd (body v r) (λ b. b.0 ≡ Version)
version_at v e r h is = (subst (IsTop v) is h).1

pub home-freed : (slot : Root) (v w : View) (r : Ref) → IsWell v → IsFreed v w r → IsLoose v r → IsHome slot v → IsHome slot w
home-freed slot v w r well freed loose h =
    let held = h.2 in
    let apart : h.0.top ≢ Obj r 2 = λ is. no_entry_at (body v r) (version_at v h.0.top r held.holds.top is) loose.entry in
    home-kept slot v w h.0 h.1 h.1 held (freed.links (Slot slot)) (tree-freed h.0 v w r freed h.1 (loose-beside h.0 v well h.1 r held.holds loose) apart held.holds)

pub home-renamed : (slot : Root) (v w : View) (names : List (Ref × Ref)) → IsWell v → Renamed v w names → IsHome slot v → IsHome slot w
home-renamed slot v w names well renamed h =
    let held = h.2 in (
      tree_as names h.0,
      map (named_as names) h.1,
      record {
        version = named_as names held.version;
        named = renamed.roots slot ∙ ap (option_map (end_as names)) held.named;
        top = ap (end_as names) held.top;
        holds = tree-renamed v w names renamed well h.0 h.1 held.holds;
      },
    )

-- a new version, which the slot names
pub home-made : (slot : Root) (v m w : View) (r : Ref) (bytes : List ℕ) → IsAdded v m r Version bytes → IsTied (link_of m) (link_of w) (Slot slot) (Obj r 1) → ((q : Ref) → body w q ≡ body m q) → IsHome slot w
home-made slot v m w r bytes added tied bodies =
    let top = Obj r 2 in (
      record { top = top },
      [],
      record {
        version = r;
        named = tied.first;
        top = refl;
        holds = tree-empty (record { top = top }) w (refl, subst (λ o. IsSomeAnd o (λ b. b.0 ≡ Version)) (sym (bodies r ∙ added.here)) refl) (tied.others top (λ e. cc) (λ e. cc) ∙ added.unset 2);
      },
    )

-- all links of a loose entry are unset, where those of the recency list are
pub free-of : (v : View) (r : Ref) → IsWell v → IsLoose v r → link_of v (Obj r 0) ≡ None → link_of v (Obj r 1) ≡ None → (field : ℕ) → link_of v (Obj r field) ≡ None
free-of v r well h less more zero = less
free-of v r well h less more (suc zero) = more
free-of v r well h less more (suc (suc zero)) = h.parent
free-of v r well h less more (suc (suc (suc zero))) = h.left
free-of v r well h less more (suc (suc (suc (suc zero)))) = h.right
free-of v r well h less more (suc (suc (suc (suc (suc f))))) = no-end v well (Obj r (suc (suc (suc (suc (suc f)))))) (λ there. let few = few-links v r (suc (suc (suc (suc (suc f))))) there in omega (arith, few))

-- ---- the way up

links_three : (kind : Kind) → 2 < links_of kind
links_three Version = omega arith
links_three RowEntry = omega arith
links_three Dummy = omega arith
links_three Static = omega arith

three_at : (o : Option (Kind × List ℕ)) (f : ℕ) → IsSomeAnd o (λ b. f < links_of b.0) → IsSomeAnd o (λ b. 2 < links_of b.0)
three_at None f h = h
three_at (Some b) f h = links_three b.0

-- each object has a link 2
pub link-two : (v : View) (r : Ref) (f : ℕ) → IsEnd v (Obj r f) → IsEnd v (Obj r 2)
link-two v r f h = three_at (body v r) f h

-- and so has what an end names
pub named-two : (v : View) → IsWell v → (e : End) (r : Ref) (f : ℕ) → link_of v e ≡ Some (Obj r f) → IsEnd v (Obj r 2)
named-two v well e r f is = link-two v r f (well.ends e (Obj r f) is)

pub entry-two : (tree : Tree) (v : View) (front back : List Ref) (r : Ref) → IsTree tree v (front ++ (r ∷ back)) → IsEnd v (Obj r 2)
entry-two tree v front back r h = entry-end v r 2 (tree-entry tree v (front ++ (r ∷ back)) r h (member-here front back r)) (omega arith)
