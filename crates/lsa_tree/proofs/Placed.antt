-- A place in the tree of a version.
use Rattle.std.proofs.Common.{◌≡◌, ◌≢◌, ℕ, suc, ◌≤◌, List, [], ◌∷◌, ◌++◌, length, Option, Some, None, IsSome, inl, inr, refl, sym, ap, ◌∙◌, subst, arith}
use Rattle.std.specs.Prelude.{IsSomeAnd, Contains, AllPairs, sum_by}
use Rattle.std.proofs.lemmas.List.{append_assoc}
use Rattle.std.proofs.lemmas.List.Sums.{sum_by-cons}
use Rattle.lsa_kinds.specs.declared.kind.Kind.{Kind}
use Rattle.lsa_region.specs.Ref.{Ref}
use Rattle.lsa_region.specs.declared.end.End.{End}
use Rattle.lsa_region.specs.declared.end.End.TheVariants.{Obj, Slot}
use Rattle.lsa_region.specs.Layout.{object_extent}
use Rattle.lsa_region.specs.Region.{View, body, link_of, IsEnd, IsWell, IsSummed, live_bytes}
use Rattle.lsa_region.specs.laws.Sizes.{rounded_32}
use Rattle.lsa_shape.specs.Path.{entered_object}
use Rattle.lsa_shape.specs.Members.{member-first, member-later, member-here, once-split}
use Rattle.lsa_shape.specs.declared.flank.Flank.{Flank}
use Rattle.lsa_shape.specs.declared.flank.Flank.TheVariants.{Low, High}
use Rattle.lsa_shape.specs.Shapes.{TreeShape, Leaf, Node, inorder, IsIn, HangsAt, IsClearOf, node_on}
use Rattle.lsa_shape.specs.Ways.{Fork, ForkAt, plug, hole, way_before, way_behind}
use Rattle.lsa_shape.specs.Levels.{IsLevel}
use Rattle.lsa_shape.specs.calls.Levels.{shape_size}
use Rattle.lsa_shape.specs.laws.Readings.{shape_at, steps_up}
use Rattle.lsa_shape.specs.laws.Hanging.{in-listed, listed-in}
use Rattle.lsa_shape.specs.laws.Places.{IsAroundEnd, at-hole, around-plug, hole-end, way-to, inorder-plug}
use Rattle.lsa_shape.specs.laws.Depths.{plug-level, way-size, size-listed}
use Rattle.lsa_shape.specs.laws.Reading.{inorder-once, read-shape, way-steps}
use Rattle.lsa_tree.specs.declared.tree.Tree.{Tree}
use Rattle.lsa_tree.specs.Entries.{IsEntryKind, AreAscending, balance_of}
use Rattle.lsa_tree.specs.Tree.{IsTop, IsTree}
use Rattle.lsa_tree.specs.calls.Placing.{IsEntryBody, IsFormed, IsPlaced, owner_of}
use Rattle.lsa_tree.specs.laws.Orders.{ascending-stands}
use Rattle.lsa_tree.specs.laws.Trees.{entry-end, top-end, entry-long, clear-entries, tree-in, in-tree, tree-pairs}

-- ---- bodies

pub body-kind : (o : Option (Kind × List ℕ)) → IsEntryBody o → IsSomeAnd o (λ b. IsEntryKind b.0)
body-kind None h = h
body-kind (Some b) h = h.0

pub body-live : (o : Option (Kind × List ℕ)) → IsEntryBody o → IsSome o
body-live None h = absurd h
body-live (Some b) h = refl

pub body-there : (v : View) (r : Ref) (f : ℕ) → IsEntryBody (body v r) → f ≤ 4 → IsEnd v (Obj r f)
body-there v r f h le = entry-end v r f (body-kind (body v r) h) le

-- ---- what hangs at an end

module _ (named : End → Option End) (a : End) where
  pub below-none : (s : TreeShape) → HangsAt named a s → entered_object 2 (named a) ≡ None → s ≡ Leaf
  below-none Leaf h none = refl
  below-none (Node l r t) h none = let clash : Some r ≡ None = sym (ap (entered_object 2) h.0) ∙ none in cc

  pub below-some : (flank : Flank) (s : TreeShape) (r : Ref) → HangsAt named a s → entered_object 2 (named a) ≡ Some r → (near : TreeShape) × (far : TreeShape) × (s ≡ node_on flank near r far)
  below-some flank Leaf r h some = let clash : None ≡ Some r = sym (ap (entered_object 2) h) ∙ some in cc
  below-some Low (Node l q t) r h some = let same : Some q ≡ Some r = sym (ap (entered_object 2) h.0) ∙ some in let first : q ≡ r = cc in (l, t, ap (λ z. Node l z t) first)
  below-some High (Node l q t) r h some = let same : Some q ≡ Some r = sym (ap (entered_object 2) h.0) ∙ some in let first : q ≡ r = cc in (t, l, ap (λ z. Node l z t) first)

  pub below-node : (flank : Flank) (near far : TreeShape) (r : Ref) → HangsAt named a (node_on flank near r far) → entered_object 2 (named a) ≡ Some r
  below-node Low near far r h = ap (entered_object 2) h.0
  below-node High near far r h = ap (entered_object 2) h.0

  pub below-unset : HangsAt named a Leaf → named a ≡ None
  below-unset h = h

-- ---- owners

owner_near : (flank : Flank) (r : Ref) (beside : TreeShape) (way : List Fork) (start : End) → owner_of (hole start (ForkAt flank r beside ∷ way)) ≡ Some (flank, r)
owner_near Low r beside way start = refl
owner_near High r beside way start = refl

owner_top : (v : View) (e : End) → IsTop v e → owner_of e ≡ None
owner_top v (Obj r f) h = ap (λ n. owner_of (Obj r n)) h.0
owner_top v (Slot s) h = absurd h

module _ (v : View) (top at : End) (is_top : IsTop v top) where
  -- the place is the top
  pub owner-none : (way : List Fork) → hole top way ≡ at → owner_of at ≡ None → way ≡ []
  owner-none [] end none = refl
  owner-none (ForkAt flank r beside ∷ way) end none = absurd (let clash : ◌≡◌ {A = Option (Flank × Ref)} (Some (flank, r)) None = sym (owner_near flank r beside way top) ∙ ap owner_of end ∙ none in cc)

  -- the nearest fork is this
  pub owner-some : (way : List Fork) (flank : Flank) (r : Ref) → hole top way ≡ at → owner_of at ≡ Some (flank, r) → (beside : TreeShape) × (rest : List Fork) × (way ≡ ForkAt flank r beside ∷ rest)
  owner-some [] flank r end some = absurd (let clash : ◌≡◌ {A = Option (Flank × Ref)} None (Some (flank, r)) = sym (owner_top v top is_top) ∙ ap owner_of end ∙ some in cc)
  owner-some (ForkAt side q beside ∷ rest) flank r end some =
      let same : ◌≡◌ {A = Option (Flank × Ref)} (Some (side, q)) (Some (flank, r)) = sym (owner_near side q beside rest top) ∙ ap owner_of end ∙ some in
      let both : ◌≡◌ {A = Flank × Ref} (side, q) (flank, r) = cc in
      (beside, rest, (λ i. ForkAt (both i).0 (both i).1 beside ∷ rest))

-- ---- what is formed

module _ (tree : Tree) (v : View) (refs : List Ref) where
  pub formed-clear : (s : TreeShape) → IsFormed tree v refs s → IsClearOf tree.top s
  formed-clear s f = clear-entries tree v tree.top s f.top (λ z i. body-kind (body v z) (f.entries z i))

  pub formed-member : (s : TreeShape) → IsFormed tree v refs s → (z : Ref) → Contains refs z → IsEntryBody (body v z)
  formed-member s f z c = f.entries z (listed-in s z (subst (λ l. Contains l z) (sym f.order) c))

  pub formed-in : (s : TreeShape) → IsFormed tree v refs s → (z : Ref) → IsIn z s → Contains refs z
  formed-in s f z i = subst (λ l. Contains l z) f.order (in-listed s z i)

  -- the end of a place is there
  pub formed-there : (way : List Fork) (s : TreeShape) → IsFormed tree v refs (plug way s) → IsEnd v (hole tree.top way)
  formed-there way s f = there (hole-end tree.top way)
    where
      there : IsAroundEnd (hole tree.top way) tree.top way → IsEnd v (hole tree.top way)
      there (inl same) = subst (IsEnd v) (sym same) (top-end v tree.top f.top)
      there (inr w) = let entry = f.entries w.0 (around-plug way s w.0 w.1) in
          elim w.2 [ inl low ↦ subst (IsEnd v) (sym low) (body-there v w.0 3 entry (omega arith)) | inr high ↦ subst (IsEnd v) (sym high) (body-there v w.0 4 entry (omega arith)) ]

  -- what hangs there, and the place is no link of it
  pub formed-hole : IsWell v → (way : List Fork) (s : TreeShape) → IsFormed tree v refs (plug way s) → HangsAt (link_of v) (hole tree.top way) s × IsClearOf (hole tree.top way) s
  formed-hole well way s f = at-hole (link_of v) well.paired tree.top way s f.hangs (formed-clear (plug way s) f)

  -- no more entries than live bytes
  extent_least : (o : Option (Kind × List ℕ)) → IsSome o → 1 ≤ object_extent o
  extent_least None h = absurd (let clash = h in cc)
  extent_least (Some b) h = omega (arith, rounded_32 b.0 (length b.1))

  summed : (xs : List Ref) → ((r : Ref) → Contains xs r → 1 ≤ object_extent (body v r)) → length xs ≤ sum_by (λ r. object_extent (body v r)) xs
  summed [] all = omega arith
  summed (x ∷ xs) all = omega (arith, sum_by-cons (λ r. object_extent (body v r)) x xs, all x (member-first x xs), summed xs (λ r c. all r (member-later x r xs c)))

  pub formed-few : IsWell v → IsSummed v → (s : TreeShape) → IsFormed tree v refs s → shape_size s ≤ live_bytes v
  formed-few well sum s f =
      let once = inorder-once (link_of v) well.paired tree.top s f.hangs (formed-clear s f) in
      let most = sum.most (inorder s) once in
      let least = summed (inorder s) (λ r c. extent_least (body v r) (body-live (body v r) (f.entries r (listed-in s r c)))) in
      omega (arith, most, least, size-listed s)

  -- the ways in it are as long as the links say, and what hangs at a place is what they say
  pub formed-up : IsWell v → IsSummed v → (way : List Fork) (s : TreeShape) → IsFormed tree v refs (plug way s) → steps_up (live_bytes v) (link_of v) (hole tree.top way) ≡ length way
  formed-up well sum way s f = up tree.top f.top f.hangs
    where
      up : (e : End) → IsTop v e → HangsAt (link_of v) e (plug way s) → steps_up (live_bytes v) (link_of v) (hole e way) ≡ length way
      up (Obj r field) h hangs = subst (λ n. steps_up (live_bytes v) (link_of v) (hole (Obj r n) way) ≡ length way) (sym h.0)
          (way-steps (link_of v) well.paired r (live_bytes v) way s (omega (arith, formed-few well sum (plug way s) f, way-size way s)) (subst (λ n. HangsAt (link_of v) (Obj r n) (plug way s)) h.0 hangs))
      up (Slot root) h hangs = absurd h

  pub formed-read : IsWell v → IsSummed v → (way : List Fork) (s : TreeShape) → IsFormed tree v refs (plug way s) → shape_at (live_bytes v) (link_of v) (hole tree.top way) ≡ s
  formed-read well sum way s f = read-shape (live_bytes v) (link_of v) (hole tree.top way) s (omega (arith, formed-few well sum (plug way s) f, way-size way s)) (formed-hole well way s f).0

  -- ---- a tree, and a formed one

  pub tree-formed : (h : IsTree tree v refs) → IsFormed tree v refs h.form.0
  tree-formed h = record {
    top = h.top;
    entries = λ z i. let w = ascending-stands v refs z h.ascending (tree-in tree v refs z h i) in entry-long v z w.0 w.1;
    hangs = h.form.2;
    order = h.form.4;
  }

  pub formed-tree : (s : TreeShape) (n : ℕ) → IsFormed tree v refs s → IsLevel (balance_of v) s n → AreAscending v refs → IsTree tree v refs
  formed-tree s n f level ascending = record { top = f.top; ascending = ascending; form = (s, n, f.hangs, level, f.order) }

  pub tree-placed : (h : IsTree tree v refs) → IsPlaced tree v refs [] h.form.0 h.form.1 h.form.1 h.form.1
  tree-placed h = record { form = tree-formed h; level = h.form.3; around = refl }

-- ---- a tree at one of its entries

pub split-once : (xs ys zs ws : List Ref) (r : Ref) → AllPairs ◌≢◌ (xs ++ (r ∷ ys)) → xs ++ (r ∷ ys) ≡ zs ++ (r ∷ ws) → (xs ≡ zs) × (ys ≡ ws)
split-once [] ys [] ws r once is = (refl, (let tails : ys ≡ ws = cc in tails))
split-once [] ys (z ∷ zs) ws r once is =
    let heads : r ≡ z = cc in let tails : ys ≡ zs ++ (r ∷ ws) = cc in absurd (once-split [] ys r once (subst (λ l. Contains l r) (sym tails) (member-here zs ws r)))
split-once (x ∷ xs) ys [] ws r once is =
    let heads : x ≡ r = cc in absurd (once-split [] (xs ++ (r ∷ ys)) x once (subst (Contains (xs ++ (r ∷ ys))) (sym heads) (member-here xs ys r)))
split-once (x ∷ xs) ys (z ∷ zs) ws r once is =
    let heads : x ≡ z = cc in let tails : xs ++ (r ∷ ys) ≡ zs ++ (r ∷ ws) = cc in
    let w = split-once xs ys zs ws r (λ i j d less within. once (suc i) (suc j) d (omega (arith, less)) (omega (arith, within))) tails in
    ((λ i. heads i ∷ w.0 i), w.1)

module _ (tree : Tree) (v : View) (well : IsWell v) where
  -- where an entry is, with what is before it and behind it
  pub tree-at : (front back : List Ref) (r : Ref) → IsTree tree v (front ++ (r ∷ back))
      → (way : List Fork) × (l : TreeShape) × (t : TreeShape) × (here : ℕ) × (depth : ℕ) × IsPlaced tree v (front ++ (r ∷ back)) way (Node l r t) here here depth × (front ≡ way_before way ++ inorder l) × (back ≡ inorder t ++ way_behind way)
  tree-at front back r h =
      let refs = front ++ (r ∷ back) in let f = tree-formed tree v refs h in
      let w = way-to [] h.form.0 r (in-tree tree v refs r h (member-here front back r)) in let way = w.0 in
      let form = subst (IsFormed tree v refs) (sym w.3) f in
      let level = plug-level (balance_of v) way (Node w.1 r w.2) h.form.1 (subst (λ s. IsLevel (balance_of v) s h.form.1) (sym w.3) h.form.3) in
      let list : refs ≡ (way_before way ++ inorder w.1) ++ (r ∷ (inorder w.2 ++ way_behind way)) =
      sym form.order ∙ inorder-plug way (Node w.1 r w.2) ∙ ap (λ l. way_before way ++ l) (append_assoc (inorder w.1) (r ∷ inorder w.2) (way_behind way)) ∙ sym (append_assoc (way_before way) (inorder w.1) (r ∷ (inorder w.2 ++ way_behind way))) in
      let both = split-once front back (way_before way ++ inorder w.1) (inorder w.2 ++ way_behind way) r (tree-pairs tree v well refs h) list in
      (way, w.1, w.2, level.0, h.form.1, record { form = form; level = level.1; around = level.2 }, both.0, both.1)
