-- What each change of objects and links leaves of versions.
use Rattle.std.proofs.Common.{◌≡◌, ◌≢◌, ℕ, zero, suc, ◌≤◌, List, length, Option, Some, None, IsSome, is_some, inl, inr, refl, sym, ap, ◌∙◌, subst, arith}
use Rattle.std.specs.Prelude.{IsSomeAnd, Contains}
use Rattle.rc_cell.specs.declared.rows.Row.{Row}
use Rattle.lsa_kinds.specs.declared.kind.Kind.{Kind}
use Rattle.lsa_kinds.specs.declared.kind.Kind.TheVariants.{Version as VersionKind, RowEntry, Dummy, Static}
use Rattle.lsa_store.specs.declared.place.Ref.{Ref}
use Rattle.lsa_region.specs.declared.end.End.{End}
use Rattle.lsa_region.specs.declared.end.End.TheVariants.{Obj, Slot}
use Rattle.lsa_region.specs.Region.{View, body, link_of, IsWell, SameObjects, IsAdded, IsFreed, IsWritten, Risen}
use Rattle.lsa_path.specs.Roles.{role_of, role_in}
use Rattle.lsa_path.specs.laws.Paths.{same_object}
use Rattle.lsa_path.specs.laws.Renamed.{some-there}
use Rattle.lsa_tree.specs.declared.tree.Tree.{Tree}
use Rattle.lsa_tree.specs.Entries.{IsEntryKind}
use Rattle.lsa_tree.specs.Tree.{IsTree, IsOffRole, IsOffTree, SameButBalances}
use Rattle.lsa_tree.specs.laws.Trees.{no_entry_at, tree-entered, tree-entry, tree-linked, tree-added, tree-freed, tree-written_beside, trees-apart, same-read, version-same, top-kept}
use Rattle.rc_core.specs.declared.entries.Entry.{Entry}
use Rattle.rc_core.specs.Continuity.{with_entries}
use Rattle.rc_core.specs.Version.{Version, IsVersion}
use Rattle.rc_object.specs.Objects.{HoldsEntry, HoldsStatic, IsMade}
use Rattle.rc_version.specs.Versions.{tree_of, version_head, HasStatics, HoldEntries, IsVersionOf, IsOutward, IsKeptBeside}
use Rattle.rc_version.specs.laws.Objects.{head-kind, static-no_version, static-no_entry, head-same, static-same, holds-same, holds-alike}
use Rattle.rc_version.specs.laws.Holding.{hold-kept}
use Rattle.rc_version.specs.laws.Marked.{marked-balances, marked-itself, marked-objects, marked-risen, marked-then, marked-written}

-- ---- one version

pub statics-stay : (v w : View) (m : Ref) (row : Option Row) → link_of w (Obj m 3) ≡ link_of v (Obj m 3) → ((s : Ref) (r : Row) → link_of v (Obj m 3) ≡ Some (Obj s 2) → HoldsStatic v s r → body w s ≡ body v s) → HasStatics v m row → HasStatics w m row
statics-stay v w m None link bodies h = link ∙ h
statics-stay v w m (Some row) link bodies h = (h.0, link ∙ h.1, static-same v w h.0 row (bodies h.0 row h.1 h.2) h.2)

-- a version stays where its tree does, the link to its static row, and what its objects hold
pub version-stays : (v w : View) (m : Ref) (refs : List Ref) (c : Version) → body w m ≡ body v m → link_of w (Obj m 3) ≡ link_of v (Obj m 3)
    → ((s : Ref) (r : Row) → link_of v (Obj m 3) ≡ Some (Obj s 2) → HoldsStatic v s r → body w s ≡ body v s) → ((r : Ref) (e : Entry) → Contains refs r → HoldsEntry v r e → HoldsEntry w r e)
    → IsTree (tree_of m) w refs → IsVersionOf v m refs c → IsVersionOf w m refs c
version-stays v w m refs c here link bodies keep tree h = record {
  head = head-same v w m (version_head c) here h.head;
  statics = statics-stay v w m c.statics link bodies h.statics;
  tree = tree;
  entries = hold-kept v w refs c.entries keep h.entries;
  version = h.version;
}

-- the kinds of its objects
module _ (v : View) (m : Ref) (refs : List Ref) (c : Version) (h : IsVersionOf v m refs c) where
  pub version-kind : IsSomeAnd (body v m) (λ b. b.0 ≡ VersionKind)
  version-kind = head-kind v m (version_head c) h.head

  pub entries-kind : (r : Ref) → Contains refs r → IsSomeAnd (body v r) (λ b. IsEntryKind b.0)
  entries-kind r k = tree-entry (tree_of m) v refs r h.tree k

  pub head-beside : Contains refs m → ⊥
  head-beside k = no_entry_at (body v m) version-kind (entries-kind m k)

tops_differ : (m n : Ref) → m ≢ n → (tree_of m).top ≢ (tree_of n).top
tops_differ m n ne e = ne (same_object m n 2 2 e)

-- two versions share no entry, and an entry of one is not the other
module _ (v : View) (well : IsWell v) (m n : Ref) (ne : m ≢ n) where
  pub versions-apart : (refs others : List Ref) → IsTree (tree_of m) v refs → IsTree (tree_of n) v others → (r : Ref) → Contains refs r → Contains others r → ⊥
  versions-apart refs others h k r a b = trees-apart v well (tree_of n) (tree_of m) others refs (tops_differ m n ne) k h r b a

-- ---- an object made

module _ (S : ℕ) (v w : View) (r : Ref) (size : ℕ) (made : IsMade S v w r size) where
  pub made-added : IsAdded v w r made.object.0 made.object.1
  made-added = made.object.2.added

  pub made-same : (q : Ref) → IsSome (body v q) → body w q ≡ body v q
  made-same q there = made-added.others q (λ is. let clash = sym (ap is_some (ap (body v) is ∙ made-added.fresh)) ∙ there in cc)

  pub made-version : (m : Ref) (refs : List Ref) (c : Version) → IsVersionOf v m refs c → IsVersionOf w m refs c
  made-version m refs c h = version-stays v w m refs c (made-same m (some-there _ (body v m) (version-kind v m refs c h))) (made-added.links (Obj m 3))
      (λ s row link k. made-same s (ap is_some k.0)) (λ q e k hold. holds-same v w q e (made-same q (some-there _ (body v q) hold)) hold)
      (tree-added (tree_of m) v w r made.object.0 made.object.1 made-added refs h.tree) h

  pub made-kept : (these : Ref → Type 0) (n : Ref) → these r → IsKeptBeside these n v w
  made-kept these n this = record {
    versions = λ m refs c ne h. made-version m refs c h;
    links = λ e out. made-added.links e;
    bodies = λ q other. made-added.others q (λ is. other (subst these (sym is) this));
    roots = λ s there. made-added.ends (Slot s) there;
    gone = λ s there. made-added.gone (Slot s) (λ field e. cc) there;
    slots = made-added.slots;
    budget = made.budget;
    moved = made.moved;
    compacted = made.compacted;
    statics = λ m refs c ne h. made-added.links (Obj m 3);
    epoch = marked-risen v w made.epoch;
  }

-- ---- bytes of an object changed

module _ (v w : View) (r : Ref) (change : List ℕ → List ℕ) (written : IsWritten v w r change) where
  -- a version of which it is no object
  pub written-beside : (m : Ref) (refs : List Ref) (c : Version) → m ≢ r → (Contains refs r → ⊥) → ((row : Row) → HoldsStatic v r row → ⊥) → IsVersionOf v m refs c → IsVersionOf w m refs c
  written-beside m refs c ne beside no_static h = version-stays v w m refs c (written.others m ne) (written.links (Obj m 3))
      (λ s row link k. written.others s (λ is. no_static row (subst (λ q. HoldsStatic v q row) is k)))
      (λ q e k hold. holds-same v w q e (written.others q (λ is. beside (subst (Contains refs) is k))) hold)
      (tree-written_beside v w r change written (tree_of m) refs beside h.tree) h

  pub written-kept : (these : Ref → Type 0) (n : Ref) → these r → ((m : Ref) (refs : List Ref) (c : Version) → m ≢ n → IsVersionOf v m refs c → IsVersionOf w m refs c) → IsKeptBeside these n v w
  written-kept these n this versions = record {
    versions = versions;
    links = λ e out. written.links e;
    bodies = λ q other. written.others q (λ is. other (subst these (sym is) this));
    roots = λ s there. written.ends (Slot s) there;
    gone = λ s there. written.gone (Slot s) there;
    slots = written.slots;
    budget = ap (λ us. length us) written.usages;
    moved = written.moved;
    compacted = written.compacted;
    statics = λ m refs c ne h. written.links (Obj m 3);
    epoch = marked-written v w r change written;
  }

  -- the head of a version, which is no object of another one
  pub head-written : (these : Ref → Type 0) → these r → IsSomeAnd (body v r) (λ b. b.0 ≡ VersionKind) → IsKeptBeside these r v w
  head-written these this kind = written-kept these r this (λ m refs c ne h. written-beside m refs c ne
      (λ k. no_entry_at (body v r) kind (entries-kind v m refs c h r k))
      (λ row k. static-no_version v r row k kind) h)

  -- an entry of a version
  pub entry-written : (these : Ref → Type 0) (n : Ref) (well : IsWell v) (mine : List Ref) → IsTree (tree_of n) v mine → Contains mine r → these r → IsKeptBeside these n v w
  entry-written these n well mine tree member this = written-kept these n this (λ m refs c ne h.
      let kind = tree-entry (tree_of n) v mine r tree member in
      written-beside m refs c (λ is. no_entry_at (body v r) (subst (λ q. IsSomeAnd (body v q) (λ b. b.0 ≡ VersionKind)) is (version-kind v m refs c h)) kind)
      (λ k. versions-apart v well m n ne refs mine h.tree tree r k member)
      (λ row k. static-no_entry v r row k kind) h)

-- ---- entries put in, taken out or exchanged

-- a change of the tree of version n, which may change the balances of these entries; they are of no other version
pub record IsTreeStep (v w : View) (n : Ref) (touched : List Ref) : Type 0 where
  pub others : (other : Tree) (refs : List Ref) → other.top ≢ Obj n 2 → IsTree other v refs → IsTree other w refs
  pub elsewhere : (e : End) → IsOffTree v e → link_of w e ≡ link_of v e
  pub objects : SameButBalances v w touched
  pub kinds : (r : Ref) → Contains touched r → IsSomeAnd (body v r) (λ b. IsEntryKind b.0)
  pub apart : (m : Ref) (refs : List Ref) → m ≢ n → IsTree (tree_of m) v refs → (r : Ref) → Contains refs r → Contains touched r → ⊥

-- no link outward, and none to a static row, is of a tree
outward_role : (kind : Kind) (field : ℕ) → field ≤ 1 → IsOffRole (role_of kind field)
outward_role VersionKind zero h = ((λ e. cc), (λ e. cc), (λ e. cc), (λ e. cc))
outward_role VersionKind (suc zero) h = ((λ e. cc), (λ e. cc), (λ e. cc), (λ e. cc))
outward_role VersionKind (suc (suc field)) h = absurd (omega (arith, h))
outward_role RowEntry zero h = ((λ e. cc), (λ e. cc), (λ e. cc), (λ e. cc))
outward_role RowEntry (suc zero) h = ((λ e. cc), (λ e. cc), (λ e. cc), (λ e. cc))
outward_role RowEntry (suc (suc field)) h = absurd (omega (arith, h))
outward_role Dummy zero h = ((λ e. cc), (λ e. cc), (λ e. cc), (λ e. cc))
outward_role Dummy (suc zero) h = ((λ e. cc), (λ e. cc), (λ e. cc), (λ e. cc))
outward_role Dummy (suc (suc field)) h = absurd (omega (arith, h))
outward_role Static zero h = ((λ e. cc), (λ e. cc), (λ e. cc), (λ e. cc))
outward_role Static (suc zero) h = ((λ e. cc), (λ e. cc), (λ e. cc), (λ e. cc))
outward_role Static (suc (suc field)) h = absurd (omega (arith, h))

outward_in : (o : Option (Kind × List ℕ)) (field : ℕ) → field ≤ 1 → IsOffRole (role_in o field)
outward_in None field h = ((λ e. cc), (λ e. cc), (λ e. cc), (λ e. cc))
outward_in (Some b) field h = outward_role b.0 field h

pub outward-off : (v : View) (e : End) → IsOutward e → IsOffTree v e
outward-off v (Obj r field) h = outward_in (body v r) field h
outward-off v (Slot s) h = ((λ e. cc), (λ e. cc), (λ e. cc), (λ e. cc))

static_link : IsOffRole (role_of VersionKind 3)
static_link = ((λ e. cc), (λ e. cc), (λ e. cc), (λ e. cc))

static_in : (o : Option (Kind × List ℕ)) → IsSomeAnd o (λ b. b.0 ≡ VersionKind) → IsOffRole (role_in o 3)
static_in None h = absurd h
static_in (Some b) h = subst (λ k. IsOffRole (role_of k 3)) (sym h) static_link

pub static-off : (v : View) (m : Ref) → IsSomeAnd (body v m) (λ b. b.0 ≡ VersionKind) → IsOffTree v (Obj m 3)
static-off v m h = static_in (body v m) h

module _ (v w : View) (n : Ref) (touched : List Ref) (step : IsTreeStep v w n touched) where
  -- what is no entry keeps its body
  pub step-head : (m : Ref) → IsSomeAnd (body v m) (λ b. b.0 ≡ VersionKind) → body w m ≡ body v m
  step-head m kind = step.objects.bodies m (λ k. no_entry_at (body v m) kind (step.kinds m k))

  pub step-static : (s : Ref) (row : Row) → HoldsStatic v s row → body w s ≡ body v s
  step-static s row h = step.objects.bodies s (λ k. static-no_entry v s row h (step.kinds s k))

  pub step-held : (r : Ref) (e : Entry) → Contains touched r → HoldsEntry v r e → HoldsEntry w r e
  step-held r e k h = holds-alike v w r e h (step.objects.alike r k)

  pub step-beside : (r : Ref) (e : Entry) → (Contains touched r → ⊥) → HoldsEntry v r e → HoldsEntry w r e
  step-beside r e k h = holds-same v w r e (step.objects.bodies r k) h

  -- another version
  pub step-other : (m : Ref) (refs : List Ref) (c : Version) → m ≢ n → IsVersionOf v m refs c → IsVersionOf w m refs c
  step-other m refs c ne h = version-stays v w m refs c (step-head m (version-kind v m refs c h)) (step.elsewhere (Obj m 3) (static-off v m (version-kind v m refs c h)))
      (λ s row link k. step-static s row k) (λ r e k hold. step-beside r e (λ t. step.apart m refs ne h.tree r k t) hold)
      (step.others (tree_of m) refs (tops_differ m n ne) h.tree) h

  pub step-kept : (these : Ref → Type 0) → ((r : Ref) → Contains touched r → these r) → IsKeptBeside these n v w
  step-kept these all = record {
    versions = step-other;
    links = λ e out. step.elsewhere e (outward-off v e out);
    bodies = λ r other. step.objects.bodies r (λ k. other (all r k));
    roots = λ s there. step.objects.ends (Slot s) there;
    gone = λ s there. step.objects.gone (Slot s) there;
    slots = step.objects.slots;
    budget = ap (λ us. length us) step.objects.usages;
    moved = step.objects.moved;
    compacted = step.objects.compacted;
    statics = λ m refs c ne h. step.elsewhere (Obj m 3) (static-off v m (version-kind v m refs c h));
    epoch = marked-balances v w touched step.objects;
  }

  -- this version, with other entries
  pub step-version : (refs now : List Ref) (c : Version) (es : List Entry) → IsVersionOf v n refs c → IsTree (tree_of n) w now → HoldEntries w now es → IsVersion (with_entries es c) → IsVersionOf w n now (with_entries es c)
  step-version refs now c es h tree held is = record {
    head = head-same v w n (version_head c) (step-head n (version-kind v n refs c h)) h.head;
    statics = statics-stay v w n c.statics (step.elsewhere (Obj n 3) (static-off v n (version-kind v n refs c h))) (λ s row link k. step-static s row k) h.statics;
    tree = tree;
    entries = held;
    version = is;
  }

-- ---- an object freed

module _ (v w : View) (r : Ref) (well : IsWell v) (freed : IsFreed v w r) (unset : (field : ℕ) → link_of v (Obj r field) ≡ None) where
  -- it was no entry of a version, and no static row of one
  pub freed-entry : (m : Ref) (refs : List Ref) → IsTree (tree_of m) v refs → Contains refs r → ⊥
  freed-entry m refs h k = tree-entered (tree_of m) v well refs r h k (unset 2)

  pub freed-static : (m : Ref) → link_of v (Obj m 3) ≡ Some (Obj r 2) → ⊥
  freed-static m link = let clash : None ≡ Some (Obj m 3) = sym (unset 2) ∙ well.paired.mates (Obj m 3) (Obj r 2) link in cc

  pub freed-version : (m : Ref) (refs : List Ref) (c : Version) → m ≢ r → IsVersionOf v m refs c → IsVersionOf w m refs c
  freed-version m refs c ne h = version-stays v w m refs c (freed.others m ne) (freed.links (Obj m 3))
      (λ s row link k. freed.others s (λ is. freed-static m (subst (λ q. link_of v (Obj m 3) ≡ Some (Obj q 2)) is link)))
      (λ q e k hold. holds-same v w q e (freed.others q (λ is. freed-entry m refs h.tree (subst (Contains refs) is k))) hold)
      (tree-freed (tree_of m) v w r freed refs (freed-entry m refs h.tree) (λ e. ne (same_object m r 2 2 e)) h.tree) h

  pub freed-kept : (these : Ref → Type 0) (n : Ref) → these r → ((m : Ref) → m ≢ n → IsSomeAnd (body v m) (λ b. b.0 ≡ VersionKind) → m ≢ r) → length w.usages ≡ length v.usages → w.moved ≡ v.moved → w.compacted ≡ v.compacted → Risen v.epoch w.epoch → IsKeptBeside these n v w
  freed-kept these n this apart budget moved compacted risen = record {
    versions = λ m refs c ne h. freed-version m refs c (apart m ne (version-kind v m refs c h)) h;
    links = λ e out. freed.links e;
    bodies = λ q other. freed.others q (λ is. other (subst these (sym is) this));
    roots = λ s there. freed.ends (Slot s) (λ field e. cc) there;
    gone = λ s there. freed.gone (Slot s) there;
    slots = freed.slots;
    budget = budget;
    moved = moved;
    compacted = compacted;
    statics = λ m refs c ne h. freed.links (Obj m 3);
    epoch = marked-risen v w risen;
  }

-- ---- the link to a static row

-- the link of version n to the static row s, and that one's link back, are changed, and no others
pub record IsStaticStep (v w : View) (n s : Ref) : Type 0 where
  pub others : (e : End) → e ≢ Obj n 3 → e ≢ Obj s 2 → link_of w e ≡ link_of v e
  pub objects : SameObjects v w
  pub version : IsSomeAnd (body v n) (λ b. b.0 ≡ VersionKind)
  pub row : IsSomeAnd (body v s) (λ b. b.0 ≡ Static)

static_apart : (kind : Kind) → kind ≡ Static → kind ≡ VersionKind → ⊥
static_apart kind a b = let clash : Static ≡ VersionKind = sym a ∙ b in cc

no_version : (o : Option (Kind × List ℕ)) → IsSomeAnd o (λ b. b.0 ≡ Static) → IsSomeAnd o (λ b. b.0 ≡ VersionKind) → ⊥
no_version None a b = a
no_version (Some k) a b = static_apart k.0 a b

no_static_entry : (kind : Kind) → kind ≡ Static → IsEntryKind kind → ⊥
no_static_entry kind a (inl b) = let clash : Static ≡ RowEntry = sym a ∙ b in cc
no_static_entry kind a (inr b) = let clash : Static ≡ Dummy = sym a ∙ b in cc

no_entry : (o : Option (Kind × List ℕ)) → IsSomeAnd o (λ b. b.0 ≡ Static) → IsSomeAnd o (λ b. IsEntryKind b.0) → ⊥
no_entry None a b = a
no_entry (Some k) a b = no_static_entry k.0 a b

three_two : ◌≢◌ {A = ℕ} 3 2
three_two e = cc

same_field : (r q : Ref) (f g : ℕ) → Obj r f ≡ Obj q g → f ≡ g
same_field r q f g e = cc

module _ (v w : View) (n s : Ref) (step : IsStaticStep v w n s) where
  -- the tree of any version stays
  pub static-tree : (m : Ref) (refs : List Ref) → IsSomeAnd (body v m) (λ b. b.0 ≡ VersionKind) → IsTree (tree_of m) v refs → IsTree (tree_of m) w refs
  static-tree m refs kind h = tree-linked (tree_of m) v w refs (top-kept v w (tree_of m).top (λ r k. version-same (body v r) (body w r) (step.objects.bodies r) k) h.top)
      (step.others (Obj m 2) (λ e. three_two (sym (same_field m n 2 3 e))) (λ e. no_version (body v s) step.row (subst (λ q. IsSomeAnd (body v q) (λ b. b.0 ≡ VersionKind)) (same_object m s 2 2 e) kind)))
      (λ r k. same-read (body v r) (body w r) (step.objects.bodies r))
      (λ r k field low high. step.others (Obj r field)
      (λ e. no_entry_at (body v n) step.version (subst (λ q. IsSomeAnd (body v q) (λ b. IsEntryKind b.0)) (same_object r n field 3 e) (tree-entry (tree_of m) v refs r h k)))
      (λ e. no_entry (body v s) step.row (subst (λ q. IsSomeAnd (body v q) (λ b. IsEntryKind b.0)) (same_object r s field 2 e) (tree-entry (tree_of m) v refs r h k)))) h

  pub static-other : (m : Ref) (refs : List Ref) (c : Version) → m ≢ n → IsVersionOf v m refs c → IsVersionOf w m refs c
  static-other m refs c ne h = version-stays v w m refs c (step.objects.bodies m) (step.others (Obj m 3) (λ e. ne (same_object m n 3 3 e)) (λ e. three_two (same_field m s 3 2 e)))
      (λ q row link k. step.objects.bodies q) (λ r e k hold. holds-same v w r e (step.objects.bodies r) hold) (static-tree m refs (version-kind v m refs c h) h.tree) h

  outward_apart : (e : End) → IsOutward e → (e ≢ Obj n 3) × (e ≢ Obj s 2)
  outward_apart (Obj r field) out = ((λ e. let is = same_field r n field 3 e in omega (arith, out, is)), (λ e. let is = same_field r s field 2 e in omega (arith, out, is)))
  outward_apart (Slot root) out = ((λ e. cc), (λ e. cc))

  pub static-kept : (these : Ref → Type 0) → IsKeptBeside these n v w
  static-kept these = record {
    versions = static-other;
    links = λ e out. step.others e (outward_apart e out).0 (outward_apart e out).1;
    bodies = λ r other. step.objects.bodies r;
    roots = λ q there. step.objects.ends (Slot q) there;
    gone = λ q there. step.objects.gone (Slot q) there;
    slots = step.objects.slots;
    budget = ap (λ us. length us) step.objects.usages;
    moved = step.objects.moved;
    compacted = step.objects.compacted;
    statics = λ m refs c ne h. step.others (Obj m 3) (λ e. ne (same_object m n 3 3 e)) (λ e. three_two (same_field m s 3 2 e));
    epoch = marked-objects v w step.objects;
  }

-- ---- one change after another

pub kept-then : (these : Ref → Type 0) (n : Ref) (old mid new : View) → IsKeptBeside these n old mid → IsKeptBeside these n mid new → IsKeptBeside these n old new
kept-then these n old mid new a b = record {
  versions = λ m refs c ne h. b.versions m refs c ne (a.versions m refs c ne h);
  links = λ e out. b.links e out ∙ a.links e out;
  bodies = λ r other. b.bodies r other ∙ a.bodies r other;
  roots = λ s there. b.roots s (a.roots s there);
  gone = λ s there. a.gone s (b.gone s there);
  slots = b.slots ∙ a.slots;
  budget = b.budget ∙ a.budget;
  moved = b.moved ∙ a.moved;
  compacted = b.compacted ∙ a.compacted;
  statics = λ m refs c ne h. b.statics m refs c ne (a.versions m refs c ne h) ∙ a.statics m refs c ne h;
  epoch = marked-then old mid new a.epoch b.epoch;
}

pub kept-same : (these : Ref → Type 0) (n : Ref) (v : View) → IsKeptBeside these n v v
kept-same these n v = record {
  versions = λ m refs c ne h. h;
  links = λ e out. refl;
  bodies = λ r other. refl;
  roots = λ s there. there;
  gone = λ s there. there;
  slots = refl;
  budget = refl;
  moved = refl;
  compacted = refl;
  statics = λ m refs c ne h. refl;
  epoch = marked-itself v;
}

-- more may change
pub kept-wider : (these others : Ref → Type 0) (n : Ref) (old new : View) → ((r : Ref) → these r → others r) → IsKeptBeside these n old new → IsKeptBeside others n old new
kept-wider these others n old new all k = record {
  versions = k.versions;
  links = k.links;
  bodies = λ r other. k.bodies r (λ this. other (all r this));
  roots = k.roots;
  gone = k.gone;
  slots = k.slots;
  budget = k.budget;
  moved = k.moved;
  compacted = k.compacted;
  statics = k.statics;
  epoch = k.epoch;
}

-- ---- links outward changed

not_outward : (field : ℕ) → 2 ≤ field → field ≤ 1 → ⊥
not_outward field a b = omega (arith, a, b)

pub version-outward : (v w : View) (n : Ref) (refs : List Ref) (c : Version) → ((e : End) → (IsOutward e → ⊥) → link_of w e ≡ link_of v e) → ((r : Ref) → body w r ≡ body v r) → IsVersionOf v n refs c → IsVersionOf w n refs c
version-outward v w n refs c links bodies h = version-stays v w n refs c (bodies n) (links (Obj n 3) (not_outward 3 (omega arith))) (λ s row link k. bodies s) (λ r e k hold. holds-same v w r e (bodies r) hold)
    (tree-linked (tree_of n) v w refs (top-kept v w (tree_of n).top (λ r k. version-same (body v r) (body w r) (bodies r) k) h.tree.top) (links (Obj n 2) (not_outward 2 (omega arith)))
    (λ r k. same-read (body v r) (body w r) (bodies r)) (λ r k field low high. links (Obj r field) (not_outward field low)) h.tree) h
