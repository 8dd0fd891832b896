-- Walks in a tree.
use Rattle.std.proofs.Common.{◌≡◌, ◌≢◌, ℕ, suc, ◌<◌, ◌≤◌, List, [], ◌∷◌, ◌++◌, length, Option, Some, None, inl, refl, sym, ap, ◌∙◌, subst, arith}
use Rattle.std.specs.Prelude.{Contains}
use Rattle.std.proofs.lemmas.List.{append-nil}
use Rattle.lsa_region.specs.Ref.{Ref}
use Rattle.lsa_region.specs.declared.end.End.{End}
use Rattle.lsa_region.specs.declared.end.End.TheVariants.{Obj}
use Rattle.lsa_region.specs.Region.{View, link_of, IsEnd, IsWell, IsSummed, live_bytes}
use Rattle.lsa_shape.specs.Path.{entered_object}
use Rattle.lsa_shape.specs.declared.flank.Flank.{Flank}
use Rattle.lsa_shape.specs.declared.flank.Flank.TheVariants.{Low, High}
use Rattle.lsa_shape.specs.Flanks.{other_flank, near_link}
use Rattle.lsa_shape.specs.Shapes.{TreeShape, Leaf, Node, inorder, HangsAt, node_on}
use Rattle.lsa_shape.specs.Ways.{Fork, ForkAt, plug, hole, way_before, way_behind}
use Rattle.lsa_shape.specs.Levels.{IsLevel}
use Rattle.lsa_shape.specs.calls.Levels.{shape_size}
use Rattle.lsa_shape.specs.laws.Readings.{shape_at, steps_up, one_more}
use Rattle.lsa_shape.specs.laws.Depths.{level-node}
use Rattle.lsa_shape.specs.laws.Places.{in-plug, way-to}
use Rattle.lsa_shape.specs.laws.Sides.{hangs-node}
use Rattle.lsa_tree.specs.declared.tree.Tree.{Tree}
use Rattle.lsa_tree.specs.Entries.{balance_of}
use Rattle.lsa_tree.specs.Search.{first_entry, last_entry, last_entry_from}
use Rattle.lsa_tree.specs.Tree.{IsTree}
use Rattle.lsa_tree.specs.calls.Placing.{IsFormed, PlaceIn, owner_of, outermost}
use Rattle.lsa_tree.specs.calls.Walking.{neighbour_on}
use Rattle.lsa_tree.specs.laws.Trees.{in-tree}
use Rattle.lsa_tree.proofs.Placed.{body-there, below-none, below-some, below-unset, owner-none, owner-some, formed-there, formed-hole, formed-up, formed-read, tree-at, tree-formed, tree-placed}

-- ---- to the outermost entry

-- what is left below an end that was come to
pub record IsEdging (v : View) (side : Flank) (start : End) (p : PlaceIn v start) (found : Option Ref) (at : End) (way : List Fork) (t : TreeShape) : Type 0 where
  pub form : IsFormed p.tree v p.refs (plug way t)
  pub end : hole p.tree.top way ≡ at
  pub same : outermost side None p.shape ≡ outermost side found t

-- the size of what the links say hangs at an end
abbrev pub size_below : View → End → ℕ
size_below v at = shape_size (shape_at (live_bytes v) (link_of v) at)

outer_node : (side : Flank) (found : Option Ref) (near : TreeShape) (r : Ref) (far : TreeShape) → outermost side found (node_on side near r far) ≡ outermost side (Some r) near
outer_node Low found near r far = refl
outer_node High found near r far = refl

pub near_smaller : (side : Flank) (near : TreeShape) (r : Ref) (far : TreeShape) → shape_size near < shape_size (node_on side near r far)
near_smaller Low near r far = omega arith
near_smaller High near r far = omega arith

module _ (v : View) (well : IsWell v) (summed : IsSummed v) (side : Flank) (start : End) (p : PlaceIn v start) where
  pub edging-start : IsEdging v side start p None start p.way p.shape
  edging-start = record { form = p.is.form; end = p.end; same = refl }

  module _ (found : Option Ref) (at : End) (way : List Fork) (t : TreeShape) (e : IsEdging v side start p found at way t) where
    pub edging-there : IsEnd v at
    edging-there = subst (IsEnd v) e.end (formed-there p.tree v p.refs way t e.form)

    edging-hangs : HangsAt (link_of v) at t
    edging-hangs = subst (λ d. HangsAt (link_of v) d t) e.end (formed-hole p.tree v p.refs well way t e.form).0

    edging_leaf : entered_object 2 (link_of v at) ≡ None → t ≡ Leaf
    edging_leaf none = below-none (link_of v) at t edging-hangs none

    pub edging-found : entered_object 2 (link_of v at) ≡ None → found ≡ outermost side None p.shape
    edging-found none = sym (e.same ∙ ap (outermost side found) (edging_leaf none))

    pub edging-unset : entered_object 2 (link_of v at) ≡ None → link_of v at ≡ None
    edging-unset none = below-unset (link_of v) at (subst (HangsAt (link_of v) at) (edging_leaf none) edging-hangs)

    pub edging-step : (r : Ref) → entered_object 2 (link_of v at) ≡ Some r → (next : List Fork) × (u : TreeShape) × IsEdging v side start p (Some r) (Obj r (near_link side)) next u × (shape_size u < shape_size t)
    edging-step r some =
        let w = below-some (link_of v) at side t r edging-hangs some in
        let node = node_on side w.0 r w.1 in (
          ForkAt side r w.1 ∷ way,
          w.0,
          record { form = subst (λ s. IsFormed p.tree v p.refs (plug way s)) w.2 e.form; end = refl; same = e.same ∙ ap (outermost side found) w.2 ∙ outer_node side found w.0 r w.1 },
          subst (λ n. shape_size w.0 < n) (ap shape_size (sym w.2)) (near_smaller side w.0 r w.1),
        )

    pub edging-size : size_below v at ≡ shape_size t
    edging-size = subst (λ d. size_below v d ≡ shape_size t) e.end (ap shape_size (formed-read p.tree v p.refs well summed way t e.form))

  pub edging-smaller : (found : Option Ref) (at : End) (way : List Fork) (t : TreeShape) → IsEdging v side start p found at way t → (r : Ref) → entered_object 2 (link_of v at) ≡ Some r → size_below v (Obj r (near_link side)) < size_below v at
  edging-smaller found at way t e r some =
      let w = edging-step found at way t e r some in
      omega (arith, w.3, edging-size found at way t e, edging-size (Some r) (Obj r (near_link side)) w.0 w.1 w.2)

-- ---- the outermost is the first or the last

abbrev first_from : Option Ref → List Ref → Option Ref
first_from found [] = found
first_from found (x ∷ xs) = Some x

outer_low : (found : Option Ref) (s : TreeShape) → outermost Low found s ≡ first_from found (inorder s)
outer_low found Leaf = refl
outer_low found (Node l r t) = outer_low (Some r) l ∙ from (inorder l)
  where
    from : (xs : List Ref) → first_from (Some r) xs ≡ first_from found (xs ++ (r ∷ inorder t))
    from [] = refl
    from (x ∷ xs) = refl

first_of : (xs : List Ref) → first_from None xs ≡ first_entry xs
first_of [] = refl
first_of (x ∷ xs) = refl

last_past : (found : Option Ref) (xs ys : List Ref) (r : Ref) → last_entry_from found (xs ++ (r ∷ ys)) ≡ last_entry_from (Some r) ys
last_past found [] ys r = refl
last_past found (x ∷ xs) ys r = last_past (Some x) xs ys r

outer_high : (found : Option Ref) (s : TreeShape) → outermost High found s ≡ last_entry_from found (inorder s)
outer_high found Leaf = refl
outer_high found (Node l r t) = outer_high (Some r) t ∙ sym (last_past found (inorder l) (inorder t) r)

pub outer-first : (s : TreeShape) → outermost Low None s ≡ first_entry (inorder s)
outer-first s = outer_low None s ∙ first_of (inorder s)

pub outer-last : (s : TreeShape) → outermost High None s ≡ last_entry (inorder s)
outer-last s = outer_high None s

outer_none : (side : Flank) (q : Ref) (s : TreeShape) → outermost side (Some q) s ≢ None
outer_none side q Leaf e = cc
outer_none Low q (Node l r t) e = outer_none Low r l e
outer_none High q (Node l r t) e = outer_none High r t e

-- nothing is there where no outermost one is
pub outer-leaf : (side : Flank) (s : TreeShape) → outermost side None s ≡ None → s ≡ Leaf
outer-leaf side Leaf e = refl
outer-leaf Low (Node l r t) e = absurd (outer_none Low r l e)
outer-leaf High (Node l r t) e = absurd (outer_none High r t e)

-- ---- beside an entry

first_some : (xs ys : List Ref) (q : Ref) → first_entry xs ≡ Some q → first_entry (xs ++ ys) ≡ Some q
first_some [] ys q e = let clash : None ≡ Some q = e in cc
first_some (x ∷ xs) ys q e = e

last_join : (found : Option Ref) (xs ys : List Ref) → last_entry_from found (xs ++ ys) ≡ last_entry_from (last_entry_from found xs) ys
last_join found [] ys = refl
last_join found (x ∷ xs) ys = last_join (Some x) xs ys

last_any : (a b : Option Ref) (ys : List Ref) (q : Ref) → last_entry_from b ys ≡ Some q → (b ≡ None) → last_entry_from a ys ≡ Some q
last_any a b [] q e none = let clash : None ≡ Some q = sym none ∙ e in cc
last_any a b (y ∷ ys) q e none = e

-- the outermost of what is on a side is beside the entry
beside_some : (side : Flank) (way : List Fork) (near far : TreeShape) (q : Ref) → outermost (other_flank side) None near ≡ Some q
    → (l t : TreeShape) (r : Ref) → Node l r t ≡ node_on side near r far → neighbour_on side (way_before way ++ inorder l) (inorder t ++ way_behind way) ≡ Some q
beside_some Low way near far q e l t r is = let same : l ≡ near = cc in
    ap (λ s. last_entry (way_before way ++ inorder s)) same ∙ last_join None (way_before way) (inorder near) ∙ last_any (last_entry (way_before way)) None (inorder near) q (sym (outer-last near) ∙ e) refl
beside_some High way near far q e l t r is = let same : t ≡ near = cc in
    ap (λ s. first_entry (inorder s ++ way_behind way)) same ∙ first_some (inorder near) (way_behind way) q (sym (outer-first near) ∙ e)

-- where nothing is there, those of the way are
beside_none : (side : Flank) (way : List Fork) (far : TreeShape) (l t : TreeShape) (r : Ref) → Node l r t ≡ node_on side Leaf r far → neighbour_on side (way_before way ++ inorder l) (inorder t ++ way_behind way) ≡ neighbour_on side (way_before way) (way_behind way)
beside_none Low way far l t r is = let same : l ≡ Leaf = cc in ap (λ s. last_entry (way_before way ++ inorder s)) same ∙ ap last_entry (append-nil (way_before way))
beside_none High way far l t r is = let same : t ≡ Leaf = cc in ap (λ s. first_entry (inorder s ++ way_behind way)) same

pub sided : (side : Flank) (l t : TreeShape) (r : Ref) → (near : TreeShape) × (far : TreeShape) × (Node l r t ≡ node_on side near r far)
sided Low l t r = (l, t, refl)
sided High l t r = (t, l, refl)

-- a fork on the way
beside_on : (side : Flank) (p : Ref) (s : TreeShape) (way : List Fork) → neighbour_on side (way_before (ForkAt side p s ∷ way)) (way_behind (ForkAt side p s ∷ way)) ≡ neighbour_on side (way_before way) (way_behind way)
beside_on Low p s way = ap last_entry (append-nil (way_before way))
beside_on High p s way = refl

beside_past : (side on : Flank) (p : Ref) (s : TreeShape) (way : List Fork) → on ≢ side → neighbour_on side (way_before (ForkAt on p s ∷ way)) (way_behind (ForkAt on p s ∷ way)) ≡ Some p
beside_past Low Low p s way ne = absurd (ne refl)
beside_past High High p s way ne = absurd (ne refl)
beside_past Low High p s way ne = last_join None (way_before way) (inorder s ++ (p ∷ [])) ∙ last_past (last_entry (way_before way)) (inorder s) [] p
beside_past High Low p s way ne = refl

beside_top : (side : Flank) → neighbour_on side [] [] ≡ None
beside_top Low = refl
beside_top High = refl

-- ---- the way up

-- the entry r hangs at the end of a way, and beside the way is what is looked for
pub record IsClimbing (v : View) (side : Flank) (tree : Tree) (refs : List Ref) (wanted : Option Ref) (r : Ref) (way : List Fork) (l t : TreeShape) : Type 0 where
  pub form : IsFormed tree v refs (plug way (Node l r t))
  pub same : wanted ≡ neighbour_on side (way_before way) (way_behind way)

-- how many entries lead up from one
abbrev pub up_from : View → Ref → ℕ
up_from v r = one_more (steps_up (live_bytes v) (link_of v)) (link_of v (Obj r 2))

module _ (v : View) (well : IsWell v) (summed : IsSummed v) where
  module _ (tree : Tree) (refs : List Ref) (way : List Fork) (l t : TreeShape) (r : Ref) (form : IsFormed tree v refs (plug way (Node l r t))) where
    pub entry-door : link_of v (Obj r 2) ≡ Some (hole tree.top way)
    entry-door = well.paired.mates (hole tree.top way) (Obj r 2) (formed-hole tree v refs well way (Node l r t) form).0.0

    pub entry-there : (f : ℕ) → f ≤ 4 → IsEnd v (Obj r f)
    entry-there f le = body-there v r f (form.entries r (in-plug way (Node l r t) r (inl refl))) le

    pub entry-up : up_from v r ≡ suc (length way)
    entry-up = ap (one_more (steps_up (live_bytes v) (link_of v))) entry-door ∙ ap (λ n. suc n) (formed-up tree v refs well summed way (Node l r t) form)

    -- its fork
    pub door-none : (e : End) → link_of v (Obj r 2) ≡ Some e → owner_of e ≡ None → (way ≡ []) × (e ≡ tree.top)
    door-none e is none = let same : hole tree.top way ≡ e = door_is e is in let top = owner-none v tree.top e form.top way same none in (top, sym same ∙ ap (hole tree.top) top)
      where
        door_is : (d : End) → link_of v (Obj r 2) ≡ Some d → hole tree.top way ≡ d
        door_is d at = let both : Some (hole tree.top way) ≡ Some d = sym entry-door ∙ at in cc

    pub door-some : (e : End) (on : Flank) (p : Ref) → link_of v (Obj r 2) ≡ Some e → owner_of e ≡ Some (on, p)
        → (s : TreeShape) × (rest : List Fork) × (way ≡ ForkAt on p s ∷ rest) × (near : TreeShape) × (far : TreeShape) × IsFormed tree v refs (plug rest (Node near p far))
    door-some e on p is some =
        let both : Some (hole tree.top way) ≡ Some e = sym entry-door ∙ is in let same : hole tree.top way ≡ e = cc in
        let w = owner-some v tree.top e form.top way on p same some in
        let parts = nodes on (Node l r t) p w.0 in
        (w.0, w.1, w.2, parts.0, parts.1, subst (λ s. IsFormed tree v refs (plug w.1 s)) parts.2 (subst (λ y. IsFormed tree v refs (plug y (Node l r t))) w.2 form))
      where
        nodes : (flank : Flank) (a : TreeShape) (q : Ref) (b : TreeShape) → (near : TreeShape) × (far : TreeShape) × (node_on flank a q b ≡ Node near q far)
        nodes Low a q b = (a, b, refl)
        nodes High a q b = (b, a, refl)

  pub climbing-start : (side : Flank) (tree : Tree) (front back : List Ref) (r : Ref) → IsTree tree v (front ++ (r ∷ back)) → link_of v (Obj r (near_link side)) ≡ None
      → (way : List Fork) × (l : TreeShape) × (t : TreeShape) × IsClimbing v side tree (front ++ (r ∷ back)) (neighbour_on side front back) r way l t
  climbing-start side tree front back r h unset =
      let w = tree-at tree v well front back r h in let way = w.0 in
      let n = sided side w.1 w.2 r in
      let hangs = subst (HangsAt (link_of v) (hole tree.top way)) n.2 (formed-hole tree v (front ++ (r ∷ back)) well way (Node w.1 r w.2) w.5.form).0 in
      let leaf : n.0 ≡ Leaf = below-none (link_of v) (Obj r (near_link side)) n.0 (hangs-node (link_of v) side (hole tree.top way) n.0 r n.1 hangs).1 (ap (entered_object 2) unset) in (
        way,
        w.1,
        w.2,
        record {
          form = w.5.form;
          same = (λ i. neighbour_on side (w.6 i) (w.7 i)) ∙ beside_none side way n.1 w.1 w.2 r (n.2 ∙ ap (λ s. node_on side s r n.1) leaf);
        },
      )

  module _ (side : Flank) (tree : Tree) (refs : List Ref) (wanted : Option Ref) (r : Ref) (way : List Fork) (l t : TreeShape) (c : IsClimbing v side tree refs wanted r way l t) where
    pub climbing-none : (e : End) → link_of v (Obj r 2) ≡ Some e → owner_of e ≡ None → None ≡ wanted
    climbing-none e is none = let w = door-none tree refs way l t r c.form e is none in sym (c.same ∙ (λ i. neighbour_on side (way_before (w.0 i)) (way_behind (w.0 i))) ∙ beside_top side)

    pub climbing-past : (e : End) (on : Flank) (p : Ref) → link_of v (Obj r 2) ≡ Some e → owner_of e ≡ Some (on, p) → on ≢ side → Some p ≡ wanted
    climbing-past e on p is some ne = let w = door-some tree refs way l t r c.form e on p is some in
        sym (c.same ∙ (λ i. neighbour_on side (way_before (w.2 i)) (way_behind (w.2 i))) ∙ beside_past side on p w.0 w.1 ne)

    pub climbing-on : (e : End) (on : Flank) (p : Ref) → link_of v (Obj r 2) ≡ Some e → owner_of e ≡ Some (on, p) → on ≡ side
        → (rest : List Fork) × (near : TreeShape) × (far : TreeShape) × IsClimbing v side tree refs wanted p rest near far
    climbing-on e on p is some same = let w = door-some tree refs way l t r c.form e on p is some in (
      w.1,
      w.3,
      w.4,
      record {
        form = w.5;
        same = c.same ∙ (λ i. neighbour_on side (way_before (w.2 i)) (way_behind (w.2 i))) ∙ (λ i. neighbour_on side (way_before (ForkAt (same i) p w.0 ∷ w.1)) (way_behind (ForkAt (same i) p w.0 ∷ w.1))) ∙ beside_on side p w.0 w.1;
      },
    )

  pub up-less : (tree : Tree) (refs : List Ref) (way : List Fork) (l t : TreeShape) (r : Ref) → IsFormed tree v refs (plug way (Node l r t)) → (e : End) (on : Flank) (p : Ref) → link_of v (Obj r 2) ≡ Some e → owner_of e ≡ Some (on, p) → up_from v p < up_from v r
  up-less tree refs way l t r form e on p is some =
      let w = door-some tree refs way l t r form e on p is some in
      omega (arith, entry-up tree refs way l t r form, entry-up tree refs w.1 w.3 w.4 p w.5, ap length w.2)

  -- ---- the next one on a side

  module _ (side : Flank) (tree : Tree) (front back : List Ref) (r : Ref) (h : IsTree tree v (front ++ (r ∷ back))) where
    -- what is on that side of it
    abbrev pub side-place : PlaceIn v (Obj r (near_link side))
    side-place =
        let refs = front ++ (r ∷ back) in let w = tree-at tree v well front back r h in let n = sided side w.1 w.2 r in
        let level = level-node (balance_of v) side n.0 r n.1 w.3 (subst (λ s. IsLevel (balance_of v) s w.3) n.2 w.5.level) in
        record {
          tree = tree;
          refs = refs;
          way = ForkAt side r n.1 ∷ w.0;
          shape = n.0;
          here = level.0;
          there = level.0;
          depth = w.4;
          is = record { form = subst (λ s. IsFormed tree v refs (plug w.0 s)) n.2 w.5.form; level = level.2; around = (level.1, w.3, level.3, level.4, w.5.around) };
          end = refl;
        }

    -- is what is beside it, where something is
    pub side-some : (q : Ref) → outermost (other_flank side) None (sided side (tree-at tree v well front back r h).1 (tree-at tree v well front back r h).2 r).0 ≡ Some q → Some q ≡ neighbour_on side front back
    side-some q e =
        let w = tree-at tree v well front back r h in let n = sided side w.1 w.2 r in
        sym ((λ i. neighbour_on side (w.6 i) (w.7 i)) ∙ beside_some side w.0 n.0 n.1 q e w.1 w.2 r n.2)

    pub side-none : outermost (other_flank side) None (sided side (tree-at tree v well front back r h).1 (tree-at tree v well front back r h).2 r).0 ≡ None → link_of v (Obj r (near_link side)) ≡ None
    side-none e =
        let refs = front ++ (r ∷ back) in let w = tree-at tree v well front back r h in let n = sided side w.1 w.2 r in
        let hangs = subst (HangsAt (link_of v) (hole tree.top w.0)) n.2 (formed-hole tree v refs well w.0 (Node w.1 r w.2) w.5.form).0 in
        subst (HangsAt (link_of v) (Obj r (near_link side))) (outer-leaf (other_flank side) n.0 e) (hangs-node (link_of v) side (hole tree.top w.0) n.0 r n.1 hangs).1

    pub side-entry : (f : ℕ) → f ≤ 4 → IsEnd v (Obj r f)
    side-entry f le = let w = tree-at tree v well front back r h in entry-there tree (front ++ (r ∷ back)) w.0 w.1 w.2 r w.5.form f le

    -- the outermost on the other side of what is there
    module _ (other : Flank) (n : ℕ) (found : Option Ref) (is_other : other ≡ other_flank side) (is_near : n ≡ near_link side) (outer : (p : PlaceIn v (Obj r n)) → found ≡ outermost other None p.shape) where
      outer_shape : found ≡ outermost (other_flank side) None (sided side (tree-at tree v well front back r h).1 (tree-at tree v well front back r h).2 r).0
      outer_shape = (subst (λ m. ((p : PlaceIn v (Obj r m)) → found ≡ outermost (other_flank side) None p.shape)) is_near (subst (λ o. ((p : PlaceIn v (Obj r n)) → found ≡ outermost o None p.shape)) is_other outer)) side-place

      pub edge-some : (q : Ref) → found ≡ Some q → Some q ≡ neighbour_on side front back
      edge-some q is = side-some q (sym outer_shape ∙ is)

      pub edge-none : found ≡ None → link_of v (Obj r (near_link side)) ≡ None
      edge-none is = side-none (sym outer_shape ∙ is)

-- a side is told by its link
pub near-same : (a b : Flank) → near_link a ≡ near_link b → a ≡ b
near-same Low Low e = refl
near-same Low High e = cc
near-same High Low e = cc
near-same High High e = refl

-- the whole tree, at its top
abbrev pub top-place : (tree : Tree) (v : View) (refs : List Ref) → IsTree tree v refs → PlaceIn v tree.top
top-place tree v refs h = record { tree = tree; refs = refs; way = []; shape = h.form.0; here = h.form.1; there = h.form.1; depth = h.form.1; is = tree-placed tree v refs h; end = refl }

-- an entry with the way to it
pub entry-formed : (tree : Tree) (v : View) (refs : List Ref) → IsTree tree v refs → (r : Ref) → Contains refs r → (way : List Fork) × (l : TreeShape) × (t : TreeShape) × IsFormed tree v refs (plug way (Node l r t))
entry-formed tree v refs h r on = let w = way-to [] h.form.0 r (in-tree tree v refs r h on) in (w.0, w.1, w.2, subst (IsFormed tree v refs) (sym w.3) (tree-formed tree v refs h))
