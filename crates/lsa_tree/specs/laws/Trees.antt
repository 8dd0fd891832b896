-- The entries of a version in order: what changes leave of them.
use Rattle.std.proofs.Common.{◌≡◌, ◌≢◌, ℕ, zero, suc, ◌+◌, ◌*◌, ◌^◌, ◌-◌, ◌<◌, ◌≤◌, List, [], ◌∷◌, length, take, drop, Option, Some, None, IsSome, is_some, inl, inr, refl, sym, ap, ◌∙◌, subst, map, arith}
use Rattle.std.specs.Prelude.{IsSomeAnd, Contains, AllPairs}
use Rattle.std.specs.Option.{option_map}
use Rattle.std.proofs.lemmas.List.{drop-drop, length-drop, length-append}
use Rattle.rc_position.specs.declared.positions.Pos.{Pos}
use Rattle.lsa_kinds.specs.declared.kind.Kind.{Kind}
use Rattle.lsa_kinds.specs.declared.kind.Kind.TheVariants.{Version, RowEntry, Dummy, Static}
use Rattle.lsa_kinds.specs.Fields.{number, number_at, IsApart, IsPut}
use Rattle.lsa_kinds.specs.Kinds.{links_of}
use Rattle.lsa_region.specs.Ref.{Ref}
use Rattle.lsa_region.specs.declared.end.End.{End}
use Rattle.lsa_region.specs.declared.end.End.TheVariants.{Obj, Slot}
use Rattle.lsa_region.specs.Ends.{named_as, end_as}
use Rattle.lsa_region.specs.Region.{View, body, link_of, IsEnd, IsWell, IsSummed, objects, SameObjects, IsAdded, IsFreed, IsWritten, Renamed}
use Rattle.lsa_region.specs.laws.Ends.{ends_decided}
use Rattle.lsa_region.specs.laws.Refs.{refs_decided}
use Rattle.lsa_shape.specs.Roles.{role_of, role_in, role_at, Parent, Left, Right, Entries}
use Rattle.lsa_shape.specs.Paths.{same_object}
use Rattle.lsa_shape.specs.Renamed.{some-there}
use Rattle.lsa_shape.specs.Shapes.{TreeShape, Leaf, Node, inorder, IsIn, HangsAt, IsOff, IsClearOf, shape_by}
use Rattle.lsa_shape.specs.laws.Hanging.{in-listed, listed-in, entered-by, hangs-determined, hangs-apart, hangs-moved, hangs-mapped, inorder-by}
use Rattle.lsa_shape.specs.declared.flank.Flank.TheVariants.{Low}
use Rattle.lsa_shape.specs.Levels.{IsLevel}
use Rattle.lsa_shape.specs.Readings.{LeadsUp, way_objects}
use Rattle.lsa_shape.specs.laws.Depths.{level-kept, level-mapped, plug-level, shallow, way-short, leans-less, size-listed}
use Rattle.lsa_shape.specs.laws.Places.{way-to}
use Rattle.lsa_shape.specs.laws.Reading.{inorder-once, way-leads, objects-long}
use Rattle.lsa_tree.specs.declared.tree.Tree.{Tree}
use Rattle.lsa_tree.specs.Entries.{IsEntryKind, SpellsEntryAt, IsEntryAtPosition, balance_in, balance_of, but_balance, IsAlike, tree_part, IsReadAlike}
use Rattle.lsa_tree.specs.Tree.{IsTop, IsTree, IsLoose, IsOffTree, IsTreeRole, IsOfTree, SameButBalances, tree_as}
use Rattle.lsa_tree.specs.laws.Orders.{ascending-kept, ascending-named, ascending-stands}

-- ---- entries and versions

entry_links : (kind : Kind) → IsEntryKind kind → 4 < links_of kind
entry_links RowEntry h = omega arith
entry_links Dummy h = omega arith
entry_links Version h = elim h [ inl e ↦ cc | inr e ↦ cc ]
entry_links Static h = elim h [ inl e ↦ cc | inr e ↦ cc ]

entry_has : (o : Option (Kind × List ℕ)) (f : ℕ) → IsSomeAnd o (λ b. IsEntryKind b.0) → f ≤ 4 → IsSomeAnd o (λ b. f < links_of b.0)
entry_has None f h le = absurd h
entry_has (Some b) f h le = omega (arith, entry_links b.0 h, le)

pub entry-end : (v : View) (r : Ref) (f : ℕ) → IsSomeAnd (body v r) (λ b. IsEntryKind b.0) → f ≤ 4 → IsEnd v (Obj r f)
entry-end v r f h le = entry_has (body v r) f h le

at_kind : (o : Option (Kind × List ℕ)) (x : Pos) → IsSomeAnd o (λ b. SpellsEntryAt b x) → IsSomeAnd o (λ b. IsEntryKind b.0)
at_kind None x h = h
at_kind (Some b) x h = h.kind

pub stands-entry : (v : View) (r : Ref) (x : Pos) → IsEntryAtPosition v r x → IsSomeAnd (body v r) (λ b. IsEntryKind b.0)
stands-entry v r x h = at_kind (body v r) x h

version_has : (o : Option (Kind × List ℕ)) → IsSomeAnd o (λ b. b.0 ≡ Version) → IsSomeAnd o (λ b. 2 < links_of b.0)
version_has None h = absurd h
version_has (Some b) h = subst (λ k. 2 < links_of k) (sym h) (omega arith)

pub top-end : (v : View) (e : End) → IsTop v e → IsEnd v e
top-end v (Obj r f) h = subst (λ n. IsEnd v (Obj r n)) (sym h.0) (version_has (body v r) h.1)
top-end v (Slot s) h = absurd h

no_entry : (kind : Kind) → kind ≡ Version → IsEntryKind kind → ⊥
no_entry kind e (inl d) = let clash : Version ≡ RowEntry = sym e ∙ d in cc
no_entry kind e (inr d) = let clash : Version ≡ Dummy = sym e ∙ d in cc

pub no_entry_at : (o : Option (Kind × List ℕ)) → IsSomeAnd o (λ b. b.0 ≡ Version) → IsSomeAnd o (λ b. IsEntryKind b.0) → ⊥
no_entry_at None h k = h
no_entry_at (Some b) h k = no_entry b.0 h k

-- no link of an entry is a top
pub entry-no-top : (v : View) (e : End) (r : Ref) (f : ℕ) → IsTop v e → IsSomeAnd (body v r) (λ b. IsEntryKind b.0) → Obj r f ≢ e
entry-no-top v (Obj q g) r f top h is = no_entry_at (body v r) (subst (λ x. IsSomeAnd (body v x) (λ b. b.0 ≡ Version)) (sym (same_object r q f g is)) top.1) h
entry-no-top v (Slot s) r f top h is = top

-- ---- roles

left_role : (kind : Kind) → IsEntryKind kind → (role_of kind 2 ≡ Parent) × (role_of kind 3 ≡ Left) × (role_of kind 4 ≡ Right)
left_role RowEntry h = (refl, refl, refl)
left_role Dummy h = (refl, refl, refl)
left_role Version h = elim h [ inl e ↦ cc | inr e ↦ cc ]
left_role Static h = elim h [ inl e ↦ cc | inr e ↦ cc ]

entry_roles : (o : Option (Kind × List ℕ)) → IsSomeAnd o (λ b. IsEntryKind b.0) → (role_in o 2 ≡ Parent) × (role_in o 3 ≡ Left) × (role_in o 4 ≡ Right)
entry_roles None h = absurd h
entry_roles (Some b) h = left_role b.0 h

top_role : (o : Option (Kind × List ℕ)) → IsSomeAnd o (λ b. b.0 ≡ Version) → role_in o 2 ≡ Entries
top_role None h = absurd h
top_role (Some b) h = ap (λ k. role_of k 2) h

module _ (v : View) (e : End) (off : IsOffTree v e) where
  pub off-top : (top : End) → IsTop v top → e ≢ top
  off-top (Obj r f) h is = off.3 (ap (role_at v) is ∙ ap (role_in (body v r)) h.0 ∙ top_role (body v r) h.1)
  off-top (Slot s) h is = h

  pub off-entry : (r : Ref) → IsSomeAnd (body v r) (λ b. IsEntryKind b.0) → IsOff e r
  off-entry r h = let w = entry_roles (body v r) h in ((λ is. off.0 (ap (role_at v) is ∙ w.0)), (λ is. off.1 (ap (role_at v) is ∙ w.1)), (λ is. off.2 (ap (role_at v) is ∙ w.2)))

-- ---- one tree

-- a body with a balance
body_long : (o : Option (Kind × List ℕ)) (x : Pos) → IsSomeAnd o (λ b. SpellsEntryAt b x) → IsSomeAnd o (λ b. IsEntryKind b.0 × (3 ≤ length b.1))
body_long None x h = h
body_long (Some b) x h = (h.kind, omega (arith, h.inside))

pub entry-long : (v : View) (r : Ref) (x : Pos) → IsEntryAtPosition v r x → IsSomeAnd (body v r) (λ b. IsEntryKind b.0 × (3 ≤ length b.1))
entry-long v r x h = body_long (body v r) x h

module _ (tree : Tree) (v : View) where
  -- the links determine the entries
  pub tree-once : (xs ys : List Ref) → IsTree tree v xs → IsTree tree v ys → xs ≡ ys
  tree-once xs ys h k = sym h.form.4 ∙ ap inorder (hangs-determined (link_of v) tree.top h.form.0 k.form.0 h.form.2 k.form.2) ∙ k.form.4

  pub tree-entry : (refs : List Ref) (r : Ref) → IsTree tree v refs → Contains refs r → IsSomeAnd (body v r) (λ b. IsEntryKind b.0)
  tree-entry refs r h c = let w = ascending-stands v refs r h.ascending c in stands-entry v r w.0 w.1

  -- what is in its shape
  pub tree-in : (refs : List Ref) (r : Ref) (h : IsTree tree v refs) → IsIn r h.form.0 → Contains refs r
  tree-in refs r h i = subst (λ l. Contains l r) h.form.4 (in-listed h.form.0 r i)

  pub in-tree : (refs : List Ref) (r : Ref) (h : IsTree tree v refs) → Contains refs r → IsIn r h.form.0
  in-tree refs r h c = listed-in h.form.0 r (subst (λ l. Contains l r) (sym h.form.4) c)

  -- the top is no link of an entry
  pub clear-entries : (e : End) (s : TreeShape) → IsTop v e → ((z : Ref) → IsIn z s → IsSomeAnd (body v z) (λ b. IsEntryKind b.0)) → IsClearOf e s
  clear-entries e s top entries z i =
      let off = λ (f : ℕ) (is : e ≡ Obj z f). entry-no-top v e z f top (entries z i) (sym is) in (off 2, off 3, off 4)

  pub tree-clear : (refs : List Ref) (h : IsTree tree v refs) → IsClearOf tree.top h.form.0
  tree-clear refs h = clear-entries tree.top h.form.0 h.top (λ z i. tree-entry refs z h (tree-in refs z h i))

  -- each entry is in it once
  pub tree-pairs : IsWell v → (refs : List Ref) → IsTree tree v refs → AllPairs ◌≢◌ refs
  tree-pairs well refs h = subst (AllPairs ◌≢◌) h.form.4 (inorder-once (link_of v) well.paired tree.top h.form.0 h.form.2 (tree-clear refs h))

  -- and there are no more than objects
  pub tree-few : IsWell v → IsSummed v → (refs : List Ref) → IsTree tree v refs → length refs ≤ objects v
  tree-few well summed refs h = summed.few refs (tree-pairs well refs h) (λ r c. some-there _ (body v r) (tree-entry refs r h c))

  -- few entries lead up from each of them to the top
  pub tree-shallow : IsWell v → (refs : List Ref) (r : Ref) → IsTree tree v refs → Contains refs r → (up : List Ref) × LeadsUp (link_of v) tree.top r up × ((d : ℕ) → length refs + 1 < 2 ^ d → length (r ∷ up) ≤ 2 * d)
  tree-shallow well refs r h c =
      let w = way-to [] h.form.0 r (in-tree refs r h c) in let way = w.0 in
      let hangs = subst (HangsAt (link_of v) tree.top) (sym w.3) h.form.2 in
      let level = plug-level (balance_of v) way (Node w.1 r w.2) h.form.1 (subst (λ s. IsLevel (balance_of v) s h.form.1) (sym w.3) h.form.3) in (
        way_objects way,
        way-leads (link_of v) well.paired tree.top way w.1 w.2 r hangs,
        λ d few. let less = shallow (balance_of v) d h.form.0 h.form.1 h.form.3 (omega (arith, few, size-listed h.form.0, ap length h.form.4)) in
            let short = way-short (balance_of v) way level.0 h.form.1 level.2 in let high = leans-less Low (balance_of v r) level.1.0 level.1.1 level.0 level.1.4 in omega (arith, less, short, high.0, objects-long way),
      )

  -- an entry is entered
  pub tree-entered : IsWell v → (refs : List Ref) (r : Ref) → IsTree tree v refs → Contains refs r → link_of v (Obj r 2) ≢ None
  tree-entered well refs r h c none = let w = entered-by (link_of v) tree.top h.form.0 h.form.2 r (in-tree refs r h c) in let clash : None ≡ Some w.0 = sym none ∙ well.paired.mates w.0 (Obj r 2) w.1 in cc

  -- a loose entry is none of them
  pub loose-beside : IsWell v → (refs : List Ref) (r : Ref) → IsTree tree v refs → IsLoose v r → Contains refs r → ⊥
  loose-beside well refs r h loose c = tree-entered well refs r h c loose.parent

-- ---- two views

pub stands-same : (v w : View) (r : Ref) (x : Pos) → body w r ≡ body v r → IsEntryAtPosition v r x → IsEntryAtPosition w r x
stands-same v w r x same h = subst (λ o. IsSomeAnd o (λ b. SpellsEntryAt b x)) (sym same) h

pub top-kept : (v w : View) (e : End) → ((r : Ref) → IsSomeAnd (body v r) (λ b. b.0 ≡ Version) → IsSomeAnd (body w r) (λ b. b.0 ≡ Version)) → IsTop v e → IsTop w e
top-kept v w (Obj r f) keep h = (h.0, keep r h.1)
top-kept v w (Slot s) keep h = h

pub version-same : (o p : Option (Kind × List ℕ)) → p ≡ o → IsSomeAnd o (λ b. b.0 ≡ Version) → IsSomeAnd p (λ b. b.0 ≡ Version)
version-same o p same h = subst (λ o. IsSomeAnd o (λ b. b.0 ≡ Version)) (sym same) h

-- an entry of which the same is read stands where it stood
pub entry-reads : (b d : Kind × List ℕ) (x : Pos) → d.0 ≡ b.0 → drop 28 d.1 ≡ drop 28 b.1 → SpellsEntryAt b x → SpellsEntryAt d x
entry-reads b d x kinds same h =
    let size : number_at 28 4 d.1 ≡ number_at 28 4 b.1 = ap (λ l. number (take 4 l)) same in
    let far : drop 32 d.1 ≡ drop 32 b.1 = sym (drop-drop 4 28 d.1) ∙ ap (drop 4) same ∙ drop-drop 4 28 b.1 in
    record {
      kind = subst IsEntryKind (sym kinds) h.kind;
      inside = omega (arith, h.inside, size, ap length same, length-drop 28 d.1, length-drop 28 b.1);
      place = h.place;
      code = (λ i. take (size i) (far i)) ∙ h.code;
    }

reads_at : (o p : Option (Kind × List ℕ)) (x : Pos) → IsReadAlike o p → IsSomeAnd o (λ b. SpellsEntryAt b x) → IsSomeAnd p (λ b. SpellsEntryAt b x)
reads_at None p x same h = absurd h
reads_at (Some b) None x same h = cc same
reads_at (Some b) (Some d) x same h = let parts : tree_part d ≡ tree_part b = cc in entry-reads b d x (ap (λ (t : Kind × (ℕ × List ℕ)). t.0) parts) (ap (λ (t : Kind × (ℕ × List ℕ)). t.1.1) parts) h

reads_kind : (o p : Option (Kind × List ℕ)) → IsReadAlike o p → IsSomeAnd o (λ b. IsEntryKind b.0) → IsSomeAnd p (λ b. IsEntryKind b.0)
reads_kind None p same h = absurd h
reads_kind (Some b) None same h = cc same
reads_kind (Some b) (Some d) same h = let parts : tree_part d ≡ tree_part b = cc in subst IsEntryKind (sym (ap (λ (t : Kind × (ℕ × List ℕ)). t.0) parts)) h

reads_balance : (o p : Option (Kind × List ℕ)) → IsReadAlike o p → balance_in p ≡ balance_in o
reads_balance None None same = refl
reads_balance None (Some d) same = cc same
reads_balance (Some b) None same = cc same
reads_balance (Some b) (Some d) same = let parts : tree_part d ≡ tree_part b = cc in ap (λ (t : Kind × (ℕ × List ℕ)). t.1.0) parts

alike_at : (o p : Option (Kind × List ℕ)) (x : Pos) → IsAlike o p → IsSomeAnd o (λ b. SpellsEntryAt b x) → IsSomeAnd p (λ b. SpellsEntryAt b x)
alike_at None p x same h = absurd h
alike_at (Some b) None x same h = cc same
alike_at (Some b) (Some d) x same h =
    let parts : but_balance d ≡ but_balance b = cc in let tails = ap (λ (t : Kind × (List ℕ × List ℕ)). t.1.1) parts in
    entry-reads b d x (ap (λ (t : Kind × (List ℕ × List ℕ)). t.0) parts) (sym (drop-drop 26 2 d.1) ∙ ap (drop 26) tails ∙ drop-drop 26 2 b.1) h

module _ (v w : View) (r : Ref) (same : IsReadAlike (body v r) (body w r)) where
  pub stands-read : (x : Pos) → IsEntryAtPosition v r x → IsEntryAtPosition w r x
  stands-read x h = reads_at (body v r) (body w r) x same h

  pub loose-read : ((f : ℕ) → 2 ≤ f → f ≤ 4 → link_of w (Obj r f) ≡ link_of v (Obj r f)) → IsLoose v r → IsLoose w r
  loose-read links h = record {
    entry = reads_kind (body v r) (body w r) same h.entry;
    parent = links 2 (omega arith) (omega arith) ∙ h.parent;
    left = links 3 (omega arith) (omega arith) ∙ h.left;
    right = links 4 (omega arith) (omega arith) ∙ h.right;
    level = reads_balance (body v r) (body w r) same ∙ h.level;
  }

pub same-read : (o p : Option (Kind × List ℕ)) → p ≡ o → IsReadAlike o p
same-read o p same = ap (option_map tree_part) same

pub alike-stands : (v w : View) (r : Ref) (x : Pos) → IsAlike (body v r) (body w r) → IsEntryAtPosition v r x → IsEntryAtPosition w r x
alike-stands v w r x same h = alike_at (body v r) (body w r) x same h

-- a tree stays where its version is there, its links stay, and what it reads of its entries
pub tree-linked : (tree : Tree) (v w : View) (refs : List Ref) → IsTop w tree.top → link_of w tree.top ≡ link_of v tree.top
    → ((r : Ref) → Contains refs r → IsReadAlike (body v r) (body w r)) → ((r : Ref) → Contains refs r → (f : ℕ) → 2 ≤ f → f ≤ 4 → link_of w (Obj r f) ≡ link_of v (Obj r f)) → IsTree tree v refs → IsTree tree w refs
tree-linked tree v w refs top here same links h = record {
  top = top;
  ascending = ascending-kept v w refs (λ r c x k. stands-read v w r (same r c) x k) h.ascending;
  form = (
    h.form.0,
    h.form.1,
    hangs-moved (link_of v) (link_of w) tree.top tree.top h.form.0 here (λ z i. let c = tree-in tree v refs z h i in (links z c 3 (omega arith) (omega arith), links z c 4 (omega arith) (omega arith))) h.form.2,
    level-kept (balance_of v) (balance_of w) h.form.0 h.form.1 (λ z i. reads_balance (body v z) (body w z) (same z (tree-in tree v refs z h i))) h.form.3,
    h.form.4,
  );
}

-- and where versions stay versions
pub tree-kept : (tree : Tree) (v w : View) (refs : List Ref) → ((r : Ref) → IsSomeAnd (body v r) (λ b. b.0 ≡ Version) → IsSomeAnd (body w r) (λ b. b.0 ≡ Version)) → link_of w tree.top ≡ link_of v tree.top
    → ((r : Ref) → Contains refs r → IsReadAlike (body v r) (body w r)) → ((r : Ref) → Contains refs r → (f : ℕ) → 2 ≤ f → f ≤ 4 → link_of w (Obj r f) ≡ link_of v (Obj r f)) → IsTree tree v refs → IsTree tree w refs
tree-kept tree v w refs versions here same links h = tree-linked tree v w refs (top-kept v w tree.top versions h.top) here same links h

-- other trees share no entry with one
pub trees-apart : (v : View) → IsWell v → (tree other : Tree) (xs ys : List Ref) → other.top ≢ tree.top → IsTree tree v xs → IsTree other v ys → (r : Ref) → Contains xs r → Contains ys r → ⊥
trees-apart v well tree other xs ys ne h k r on too = hangs-apart (link_of v) well.paired tree.top other.top h.form.0 k.form.0 (λ e. ne (sym e)) h.form.2 k.form.2
    (clear-entries tree v tree.top k.form.0 h.top (λ z i. tree-entry other v ys z k (tree-in other v ys z k i)))
    (clear-entries tree v other.top h.form.0 k.top (λ z i. tree-entry tree v xs z h (tree-in tree v xs z h i))) r (in-tree tree v xs r h on) (in-tree other v ys r k too)

-- an entry stands in one tree
pub trees-same : (v : View) → IsWell v → (tree other : Tree) (xs ys : List Ref) → IsTree tree v xs → IsTree other v ys → (r : Ref) → Contains xs r → Contains ys r → tree ≡ other
trees-same v well tree other xs ys h k r on too = elim (ends_decided tree.top other.top) [
  | inl same ↦ ap (λ e. record { top = e }) same
  | inr apart ↦ absurd (trees-apart v well tree other xs ys (λ same. apart (sym same)) h k r on too)
]

-- all objects are the same, and so alike
pub same-objects : (v w : View) (refs : List Ref) → SameObjects v w → SameButBalances v w refs
same-objects v w refs same = record {
  alike = λ r c. ap (option_map _) (same.bodies r);
  bodies = λ r c. same.bodies r;
  ends = same.ends;
  gone = same.gone;
  spots = same.spots;
  slots = same.slots;
  usages = same.usages;
  epoch = same.epoch;
  moved = same.moved;
  compacted = same.compacted;
}

-- ---- what leaves a tree as it is

-- a version that keeps its kind is a version
pub kind-kept : (o p : Option (Kind × List ℕ)) → option_map (λ b. b.0) p ≡ option_map (λ b. b.0) o → IsSomeAnd o (λ b. b.0 ≡ Version) → IsSomeAnd p (λ b. b.0 ≡ Version)
kind-kept None p same h = absurd h
kind-kept (Some b) None same h = cc same
kind-kept (Some b) (Some d) same h = let kinds : d.0 ≡ b.0 = cc in kinds ∙ h

-- where no link changes
pub tree-unlinked : (tree : Tree) (v w : View) (refs : List Ref) → ((e : End) → link_of w e ≡ link_of v e) → ((r : Ref) → IsSomeAnd (body v r) (λ b. b.0 ≡ Version) → IsSomeAnd (body w r) (λ b. b.0 ≡ Version))
    → ((r : Ref) → Contains refs r → IsReadAlike (body v r) (body w r)) → IsTree tree v refs → IsTree tree w refs
tree-unlinked tree v w refs links versions same h = tree-kept tree v w refs versions (links tree.top) same (λ r c f low high. links (Obj r f)) h

-- an end of a tree is of a tree's role
tree_role : (kind : Kind) → IsEntryKind kind → (f : ℕ) → 2 ≤ f → f ≤ 4 → IsTreeRole (role_of kind f)
tree_role kind h zero low high = absurd (omega (arith, low))
tree_role kind h (suc zero) low high = absurd (omega (arith, low))
tree_role kind h (suc (suc zero)) low high = inl (left_role kind h).0
tree_role kind h (suc (suc (suc zero))) low high = inr (inl (left_role kind h).1)
tree_role kind h (suc (suc (suc (suc zero)))) low high = inr (inr (inl (left_role kind h).2))
tree_role kind h (suc (suc (suc (suc (suc f))))) low high = absurd (omega (arith, high))

tree_role_in : (o : Option (Kind × List ℕ)) → IsSomeAnd o (λ b. IsEntryKind b.0) → (f : ℕ) → 2 ≤ f → f ≤ 4 → IsTreeRole (role_in o f)
tree_role_in None h f low high = absurd h
tree_role_in (Some b) h f low high = tree_role b.0 h f low high

pub entry-of_tree : (v : View) (r : Ref) → IsSomeAnd (body v r) (λ b. IsEntryKind b.0) → (f : ℕ) → 2 ≤ f → f ≤ 4 → IsOfTree v (Obj r f)
entry-of_tree v r h f low high = tree_role_in (body v r) h f low high

pub top-of_tree : (v : View) (e : End) → IsTop v e → IsOfTree v e
top-of_tree v (Obj r f) h = inr (inr (inr (ap (role_in (body v r)) h.0 ∙ top_role (body v r) h.1)))
top-of_tree v (Slot s) h = absurd h

-- where links of other roles change
pub tree-roles : (tree : Tree) (v w : View) (refs : List Ref) → ((e : End) → IsOfTree v e → link_of w e ≡ link_of v e) → ((r : Ref) → IsSomeAnd (body v r) (λ b. b.0 ≡ Version) → IsSomeAnd (body w r) (λ b. b.0 ≡ Version))
    → ((r : Ref) → Contains refs r → IsReadAlike (body v r) (body w r)) → IsTree tree v refs → IsTree tree w refs
tree-roles tree v w refs links versions same h = tree-kept tree v w refs versions (links tree.top (top-of_tree v tree.top h.top)) same
    (λ r c f low high. links (Obj r f) (entry-of_tree v r (tree-entry tree v refs r h c) f low high)) h

pub loose-roles : (v w : View) (r : Ref) → ((e : End) → IsOfTree v e → link_of w e ≡ link_of v e) → IsReadAlike (body v r) (body w r) → IsLoose v r → IsLoose w r
loose-roles v w r links same h = loose-read v w r same (λ f low high. links (Obj r f) (entry-of_tree v r h.entry f low high)) h

-- where an object is made
not_fresh : (v w : View) (r : Ref) (kind : Kind) (bytes : List ℕ) → IsAdded v w r kind bytes → (q : Ref) → IsSome (body v q) → body w q ≡ body v q
not_fresh v w r kind bytes added q there = added.others q (λ is. let clash = sym (ap is_some (ap (body v) is ∙ added.fresh)) ∙ there in cc)

pub tree-added : (tree : Tree) (v w : View) (r : Ref) (kind : Kind) (bytes : List ℕ) → IsAdded v w r kind bytes → (refs : List Ref) → IsTree tree v refs → IsTree tree w refs
tree-added tree v w r kind bytes added refs h = tree-unlinked tree v w refs added.links
    (λ q k. version-same (body v q) (body w q) (not_fresh v w r kind bytes added q (some-there _ (body v q) k)) k)
    (λ q c. same-read (body v q) (body w q) (not_fresh v w r kind bytes added q (some-there _ (body v q) (tree-entry tree v refs q h c)))) h

pub loose-added : (v w : View) (r : Ref) (kind : Kind) (bytes : List ℕ) → IsAdded v w r kind bytes → (q : Ref) → IsLoose v q → IsLoose w q
loose-added v w r kind bytes added q h = loose-read v w q (same-read (body v q) (body w q) (not_fresh v w r kind bytes added q (some-there _ (body v q) h.entry))) (λ f low high. added.links (Obj q f)) h

pub stands-added : (v w : View) (r : Ref) (kind : Kind) (bytes : List ℕ) → IsAdded v w r kind bytes → (q : Ref) (x : Pos) → IsEntryAtPosition v q x → IsEntryAtPosition w q x
stands-added v w r kind bytes added q x h = stands-same v w q x (not_fresh v w r kind bytes added q (some-there _ (body v q) h)) h

entry_made : (o : Option (Kind × List ℕ)) (kind : Kind) (bytes : List ℕ) → o ≡ Some (kind, bytes) → IsEntryKind kind → IsSomeAnd o (λ b. IsEntryKind b.0)
entry_made o kind bytes is h = subst (λ o. IsSomeAnd o (λ b. IsEntryKind b.0)) (sym is) h

-- what is made is loose
pub loose-made : (v w : View) (r : Ref) (kind : Kind) (bytes : List ℕ) → IsAdded v w r kind bytes → IsEntryKind kind → number_at 1 1 bytes ≡ 0 → IsLoose w r
loose-made v w r kind bytes added h level = record {
  entry = entry_made (body w r) kind bytes added.here h;
  parent = added.unset 2;
  left = added.unset 3;
  right = added.unset 4;
  level = ap balance_in added.here ∙ level;
}

-- where an object is freed that is loose, or no entry
pub tree-freed : (tree : Tree) (v w : View) (r : Ref) → IsFreed v w r → (refs : List Ref) → (Contains refs r → ⊥) → tree.top ≢ Obj r 2 → IsTree tree v refs → IsTree tree w refs
tree-freed tree v w r freed refs beside apart h = record {
  top = freed_top tree.top apart h.top;
  ascending = ascending-kept v w refs (λ q c x k. stands-read v w q (kept q c) x k) h.ascending;
  form = (
    h.form.0,
    h.form.1,
    hangs-moved (link_of v) (link_of w) tree.top tree.top h.form.0 (freed.links tree.top) (λ z i. (freed.links (Obj z 3), freed.links (Obj z 4))) h.form.2,
    level-kept (balance_of v) (balance_of w) h.form.0 h.form.1 (λ z i. reads_balance (body v z) (body w z) (kept z (tree-in tree v refs z h i))) h.form.3,
    h.form.4,
  );
}
  where
    kept : (q : Ref) → Contains refs q → IsReadAlike (body v q) (body w q)
    kept q c = same-read (body v q) (body w q) (freed.others q (λ is. beside (subst (Contains refs) is c)))

    freed_top : (e : End) → e ≢ Obj r 2 → IsTop v e → IsTop w e
    freed_top (Obj q f) ne k = (k.0, version-same (body v q) (body w q) (freed.others q (λ is. ne (ap (λ x. Obj x f) is ∙ ap (λ n. Obj r n) k.0))) k.1)
    freed_top (Slot s) ne k = k

pub loose-freed : (v w : View) (r : Ref) → IsFreed v w r → (q : Ref) → q ≢ r → IsLoose v q → IsLoose w q
loose-freed v w r freed q ne h = loose-read v w q (same-read (body v q) (body w q) (freed.others q ne)) (λ f low high. freed.links (Obj q f)) h

-- where bytes of an object are written that a tree does not read
module _ (v w : View) (r : Ref) (change : List ℕ → List ℕ) (written : IsWritten v w r change) where
  kind_written : (o p : Option (Kind × List ℕ)) → IsSomeAnd o (λ b. p ≡ Some (b.0, change b.1)) → option_map (λ b. b.0) p ≡ option_map (λ b. b.0) o
  kind_written None p h = absurd h
  kind_written (Some b) p h = ap (option_map (λ b. b.0)) h

  pub written-version : (q : Ref) → IsSomeAnd (body v q) (λ b. b.0 ≡ Version) → IsSomeAnd (body w q) (λ b. b.0 ≡ Version)
  written-version q k = elim (refs_decided q r) [
    | inl same ↦ kind-kept (body v q) (body w q) (subst (λ x. option_map (λ b. b.0) (body w x) ≡ option_map (λ b. b.0) (body v x)) (sym same) (kind_written (body v r) (body w r) written.here)) k
    | inr ne ↦ version-same (body v q) (body w q) (written.others q ne) k
  ]

  read_written : (o p : Option (Kind × List ℕ)) → IsSomeAnd o (λ b. p ≡ Some (b.0, change b.1)) → IsSomeAnd o (λ b. (number_at 1 1 (change b.1) ≡ number_at 1 1 b.1) × (drop 28 (change b.1) ≡ drop 28 b.1)) → IsReadAlike o p
  read_written None p h k = absurd h
  read_written (Some b) p h k = ap (option_map tree_part) h ∙ (λ i. Some (b.0, (k.0 i, k.1 i)))

  -- apart from what a tree reads
  pub written-read : IsSomeAnd (body v r) (λ b. (number_at 1 1 (change b.1) ≡ number_at 1 1 b.1) × (drop 28 (change b.1) ≡ drop 28 b.1)) → (q : Ref) → IsReadAlike (body v q) (body w q)
  written-read k q = elim (refs_decided q r) [
    | inl same ↦ subst (λ x. IsReadAlike (body v x) (body w x)) (sym same) (read_written (body v r) (body w r) written.here k)
    | inr ne ↦ same-read (body v q) (body w q) (written.others q ne)
  ]

  pub tree-written : (tree : Tree) (refs : List Ref) → IsSomeAnd (body v r) (λ b. (number_at 1 1 (change b.1) ≡ number_at 1 1 b.1) × (drop 28 (change b.1) ≡ drop 28 b.1)) → IsTree tree v refs → IsTree tree w refs
  tree-written tree refs k h = tree-unlinked tree v w refs written.links written-version (λ q c. written-read k q) h

  pub tree-written_beside : (tree : Tree) (refs : List Ref) → (Contains refs r → ⊥) → IsTree tree v refs → IsTree tree w refs
  tree-written_beside tree refs beside h = tree-unlinked tree v w refs written.links written-version (λ q c. same-read (body v q) (body w q) (written.others q (λ is. beside (subst (Contains refs) is c)))) h

  pub loose-written : (q : Ref) → IsSomeAnd (body v r) (λ b. (number_at 1 1 (change b.1) ≡ number_at 1 1 b.1) × (drop 28 (change b.1) ≡ drop 28 b.1)) → IsLoose v q → IsLoose w q
  loose-written q k h = loose-read v w q (written-read k q) (λ f low high. written.links (Obj q f)) h

  -- a field before the length of the position, and apart from the balance
  pub field-read : (offset width value : ℕ) → offset + width ≤ 28 → IsApart offset width 1 1 → IsSomeAnd (body v r) (λ b. IsPut b.1 (change b.1) offset width value)
      → IsSomeAnd (body v r) (λ b. (number_at 1 1 (change b.1) ≡ number_at 1 1 b.1) × (drop 28 (change b.1) ≡ drop 28 b.1))
  field-read offset width value low apart put = put_read (body v r) put
    where
      put_read : (o : Option (Kind × List ℕ)) → IsSomeAnd o (λ b. IsPut b.1 (change b.1) offset width value) → IsSomeAnd o (λ b. (number_at 1 1 (change b.1) ≡ number_at 1 1 b.1) × (drop 28 (change b.1) ≡ drop 28 b.1))
      put_read None h = absurd h
      put_read (Some b) h =
          let past : offset + width + (28 - (offset + width)) ≡ 28 = omega (arith, low) in
          let far : (l : List ℕ) → drop (28 - (offset + width)) (drop (offset + width) l) ≡ drop 28 l = λ l. drop-drop (28 - (offset + width)) (offset + width) l ∙ ap (λ n. drop n l) past in
          (h.others 1 1 apart, sym (far (change b.1)) ∙ ap (drop (28 - (offset + width))) h.behind ∙ far b.1)

-- a version without entries
no_entries : (s : TreeShape) → inorder s ≡ [] → s ≡ Leaf
no_entries Leaf none = refl
no_entries (Node l r t) none = absurd (let long = ap length none in omega (arith, long, length-append (inorder l) (r ∷ inorder t)))

module _ (tree : Tree) (v : View) where
  pub tree-empty : IsTop v tree.top → link_of v tree.top ≡ None → IsTree tree v []
  tree-empty top unset = record { top = top; ascending = tt; form = (Leaf, 0, unset, refl, refl) }

  pub empty-unset : IsTree tree v [] → link_of v tree.top ≡ None
  empty-unset h = subst (HangsAt (link_of v) tree.top) (no_entries h.form.0 h.form.4) h.form.2

  pub unset-empty : (refs : List Ref) → IsTree tree v refs → link_of v tree.top ≡ None → refs ≡ []
  unset-empty refs h unset = tree-once tree v refs [] h (tree-empty h.top unset)

-- ---- other names

module _ (old new : View) (names : List (Ref × Ref)) (renamed : Renamed old new names) (well : IsWell old) where
  pub stands-renamed : (r : Ref) (x : Pos) → IsEntryAtPosition old r x → IsEntryAtPosition new (named_as names r) x
  stands-renamed r x h = subst (λ o. IsSomeAnd o (λ b. SpellsEntryAt b x)) (sym (renamed.bodies r (some-there _ (body old r) h))) h

  unset_renamed : (r : Ref) (f : ℕ) → IsSome (body old r) → link_of old (Obj r f) ≡ None → link_of new (Obj (named_as names r) f) ≡ None
  unset_renamed r f live unset = renamed.links r f live ∙ ap (option_map (end_as names)) unset

  top_renamed : (e : End) → IsTop old e → IsTop new (end_as names e)
  top_renamed (Obj r f) h = (h.0, version-same (body old r) (body new (named_as names r)) (renamed.bodies r (some-there _ (body old r) h.1)) h.1)
  top_renamed (Slot s) h = h

  link_renamed : (e : End) → IsTop old e → link_of new (end_as names e) ≡ option_map (end_as names) (link_of old e)
  link_renamed (Obj r f) h = renamed.links r f (some-there _ (body old r) h.1)
  link_renamed (Slot s) h = absurd h

  pub tree-renamed : (tree : Tree) (refs : List Ref) → IsTree tree old refs → IsTree (tree_as names tree) new (map (named_as names) refs)
  tree-renamed tree refs h =
      let live : (z : Ref) → IsIn z h.form.0 → IsSome (body old z) = λ z i. some-there _ (body old z) (tree-entry tree old refs z h (tree-in tree old refs z h i)) in
      record {
        top = top_renamed tree.top h.top;
        ascending = ascending-named old new (named_as names) stands-renamed refs h.ascending;
        form = (
          shape_by (named_as names) h.form.0,
          h.form.1,
          hangs-mapped (link_of old) (link_of new) (end_as names) (named_as names) tree.top h.form.0 (λ z i f low high. refl) (link_renamed tree.top h.top) (λ z i f low high. renamed.links z f (live z i)) h.form.2,
          level-mapped (balance_of old) (balance_of new) (named_as names) h.form.0 h.form.1 (λ z i. ap balance_in (renamed.bodies z (live z i))) h.form.3,
          inorder-by (named_as names) h.form.0 ∙ ap (map (named_as names)) h.form.4,
        );
      }

  pub loose-renamed : (r : Ref) → IsLoose old r → IsLoose new (named_as names r)
  loose-renamed r h = let live = some-there _ (body old r) h.entry in record {
    entry = subst (λ o. IsSomeAnd o (λ b. IsEntryKind b.0)) (sym (renamed.bodies r live)) h.entry;
    parent = unset_renamed r 2 live h.parent;
    left = unset_renamed r 3 live h.left;
    right = unset_renamed r 4 live h.right;
    level = ap balance_in (renamed.bodies r live) ∙ h.level;
  }
