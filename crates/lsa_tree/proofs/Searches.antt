-- Searching down a tree: the entries before the place stand before what is looked for, those behind it behind.
use Rattle.std.proofs.Common.{◌≡◌, ℕ, ◌+◌, ◌*◌, ◌^◌, ◌<◌, ◌≤◌, List, [], ◌∷◌, ◌++◌, length, Option, Some, None, inl, inr, ◌⊎◌, refl, sym, ap, ◌∙◌, subst, arith}
use Rattle.std.specs.Prelude.{Contains}
use Rattle.std.specs.List.{AllByRecursion}
use Rattle.std.proofs.lemmas.List.{append_assoc, append-nil, append_cancel_left}
use Rattle.rc_position.specs.declared.positions.Pos.{Pos}
use Rattle.rc_position.specs.Position.{IsBefore}
use Rattle.lsa_region.specs.Ref.{Ref}
use Rattle.lsa_region.specs.declared.end.End.{End}
use Rattle.lsa_region.specs.declared.end.End.TheVariants.{Obj}
use Rattle.lsa_region.specs.Region.{View, link_of, IsEnd, IsWell, IsSummed, live_bytes}
use Rattle.lsa_shape.specs.Path.{entered_object}
use Rattle.lsa_shape.specs.Members.{member-here}
use Rattle.lsa_shape.specs.declared.flank.Flank.TheVariants.{Low, High}
use Rattle.lsa_shape.specs.Shapes.{TreeShape, Leaf, Node, inorder, HangsAt}
use Rattle.lsa_shape.specs.Ways.{Fork, ForkAt, plug, hole, way_before, way_behind}
use Rattle.lsa_shape.specs.Levels.{IsLevel, HasBalance}
use Rattle.lsa_shape.specs.calls.Levels.{shape_size}
use Rattle.lsa_shape.specs.laws.Readings.{shape_at}
use Rattle.lsa_shape.specs.laws.Depths.{level-node, level-plug, level-size, way-short, size-listed, shallow, leans-less, leans-other}
use Rattle.lsa_shape.specs.laws.Places.{inorder-plug}
use Rattle.lsa_tree.specs.declared.tree.Tree.{Tree}
use Rattle.lsa_tree.specs.declared.tree.Place.TheVariants.{Here, Before, Last}
use Rattle.lsa_tree.specs.Entries.{IsEntryAtPosition, StandsEarlier, StandsLater, BelongsBetween, AreAscending, balance_of}
use Rattle.lsa_tree.specs.Search.{IsFound, first_entry}
use Rattle.lsa_tree.specs.Tree.{IsTree}
use Rattle.lsa_tree.specs.calls.Placing.{IsFormed, IsPlaced, IsVacant}
use Rattle.lsa_tree.specs.laws.Orders.{all-both, all-back, all-further, all-mapped, before-trans, ascending-back, ascending-split, belongs-once, never-at}
use Rattle.lsa_tree.specs.laws.Trees.{tree-once}
use Rattle.lsa_tree.proofs.Placed.{below-none, below-some, formed-there, formed-hole, formed-read, tree-placed}
use Rattle.lsa_tree.proofs.Walks.{size_below}

pub record IsReached (tree : Tree) (v : View) (x : Pos) (at : End) (next : Option Ref) (refs : List Ref) (way : List Fork) (s : TreeShape) (here depth : ℕ) : Type 0 where
  pub whole : IsTree tree v refs
  pub place : IsPlaced tree v refs way s here here depth
  pub end : hole tree.top way ≡ at
  pub before : AllByRecursion (λ r. StandsEarlier v r x) (way_before way)
  pub behind : AllByRecursion (λ r. StandsLater v r x) (way_behind way)
  pub first : first_entry (way_behind way) ≡ next

-- the place as one value
abbrev pub IsReachedAt : Tree → View → Pos → End → Option Ref → List Ref → Type 0
IsReachedAt tree v x at next refs = (way : List Fork) × (s : TreeShape) × (here : ℕ) × (depth : ℕ) × IsReached tree v x at next refs way s here depth

pub found-next : (v : View) (refs front back : List Ref) (x : Pos) → refs ≡ front ++ back → BelongsBetween v x front back → (r : Ref) → first_entry back ≡ Some r → IsFound v refs x (Before r)
found-next v refs front [] x is fits r first = absurd (let clash : ◌≡◌ {A = Option Ref} None (Some r) = first in cc)
found-next v refs front (y ∷ back) x is fits r first = let same : y ≡ r = cc in (front, back, is ∙ ap (λ z. front ++ (z ∷ back)) same, subst (λ z. BelongsBetween v x front (z ∷ back)) same fits)

pub found-none : (v : View) (refs front back : List Ref) (x : Pos) → refs ≡ front ++ back → BelongsBetween v x front back → first_entry back ≡ None → IsFound v refs x Last
found-none v refs front [] x is fits first = subst (λ l. BelongsBetween v x l []) (sym (is ∙ append-nil front)) fits
found-none v refs front (y ∷ back) x is fits first = absurd (let clash : ◌≡◌ {A = Option Ref} (Some y) None = first in cc)

module _ (tree : Tree) (v : View) (well : IsWell v) (summed : IsSummed v) (x : Pos) (refs : List Ref) where
  pub reached-start : (h : IsTree tree v refs) → IsReached tree v x tree.top None refs [] h.form.0 h.form.1 h.form.1
  reached-start h = record { whole = h; place = tree-placed tree v refs h; end = refl; before = tt; behind = tt; first = refl }

  module _ (at : End) (next : Option Ref) (way : List Fork) (s : TreeShape) (here depth : ℕ) (reached : IsReached tree v x at next refs way s here depth) where
    pub reached-there : IsEnd v at
    reached-there = subst (IsEnd v) reached.end (formed-there tree v refs way s reached.place.form)

    hangs : HangsAt (link_of v) at s
    hangs = subst (λ e. HangsAt (link_of v) e s) reached.end (formed-hole tree v refs well way s reached.place.form).0

    -- so many were compared, no more than the tree is deep
    reached_size : size_below v at ≡ shape_size s
    reached_size = subst (λ e. size_below v e ≡ shape_size s) reached.end (ap shape_size (formed-read tree v refs well summed way s reached.place.form))

    pub reached-size : size_below v at ≡ shape_size s
    reached-size = reached_size

    -- what was compared, and how deep it is here, is no more than there are entries, and no more than twice the logarithm of these
    whole_level : IsLevel (balance_of v) (plug way s) depth
    whole_level = level-plug (balance_of v) way s here depth reached.place.level reached.place.around

    sized : shape_size (plug way s) ≡ length refs
    sized = sym (size-listed (plug way s)) ∙ ap length reached.place.form.order

    short : length way + here ≤ depth
    short = way-short (balance_of v) way here depth reached.place.around

    pub steps-most : length way + here ≤ length refs
    steps-most = omega (arith, short, sized, level-size (balance_of v) (plug way s) depth whole_level)

    pub steps-less : (d : ℕ) → length refs + 1 < 2 ^ d → length way + here ≤ 2 * d
    steps-less d few = let less = shallow (balance_of v) d (plug way s) depth whole_level (omega (arith, few, sized)) in omega (arith, short, less)

    list : refs ≡ way_before way ++ (inorder s ++ way_behind way)
    list = sym reached.place.form.order ∙ inorder-plug way s

    -- nothing hangs there
    module _ (none : entered_object 2 (link_of v at) ≡ None) where
      leaf : s ≡ Leaf
      leaf = below-none (link_of v) at s hangs none

      pub last-list : refs ≡ way_before way ++ way_behind way
      last-list = list ∙ ap (λ t. way_before way ++ (inorder t ++ way_behind way)) leaf

      pub last-belongs : BelongsBetween v x (way_before way) (way_behind way)
      last-belongs = record { before = reached.before; behind = reached.behind }

      pub last-some : shape_size s ≡ 0
      last-some = ap shape_size leaf

      -- where the place is the top there is no entry
      pub last-way : 0 < length refs → 0 < length way
      last-way some = on way leaf sized
        where
          on : (ways : List Fork) → s ≡ Leaf → shape_size (plug ways s) ≡ length refs → 0 < length ways
          on [] none size = absurd (let zero_size = ap shape_size none in omega (arith, some, size, zero_size))
          on (fork ∷ ways) none size = omega arith

      level_zero : here ≡ 0
      level_zero = subst (λ t. IsLevel (balance_of v) t here) leaf reached.place.level

      pub last-vacant : (front back : List Ref) → IsTree tree v (front ++ back) → BelongsBetween v x front back → (on : List Fork) × (deep : ℕ) × IsVacant tree v front back at on deep
      last-vacant front back h fits =
          let same : refs ≡ front ++ back = tree-once tree v refs (front ++ back) reached.whole h in
          let front_is : way_before way ≡ front = sym (belongs-once v front back (way_before way) (way_behind way) x (sym same ∙ last-list) fits last-belongs) in
          let tails : way_behind way ≡ back = append_cancel_left front (way_behind way) back (ap (λ l. l ++ way_behind way) (sym front_is) ∙ sym last-list ∙ same) in (
            way,
            depth,
            record {
              place = subst (λ l. IsPlaced tree v l way Leaf 0 0 depth) same (subst (λ n. IsPlaced tree v refs way Leaf n n depth) level_zero (subst (λ t. IsPlaced tree v refs way t here here depth) leaf reached.place));
              end = reached.end;
              before = front_is;
              behind = tails;
            },
          )

    -- an entry hangs there
    module _ (r : Ref) (some : entered_object 2 (link_of v at) ≡ Some r) where
      root : (l : TreeShape) × (t : TreeShape) × (s ≡ Node l r t)
      root = below-some (link_of v) at Low s r hangs some

      node_list : refs ≡ (way_before way ++ inorder root.0) ++ (r ∷ (inorder root.1 ++ way_behind way))
      node_list = list ∙ ap (λ t. way_before way ++ (inorder t ++ way_behind way)) root.2 ∙ ap (λ l. way_before way ++ l) (append_assoc (inorder root.0) (r ∷ inorder root.1) (way_behind way))
          ∙ sym (append_assoc (way_before way) (inorder root.0) (r ∷ (inorder root.1 ++ way_behind way)))

      ascends : AreAscending v ((way_before way ++ inorder root.0) ++ (r ∷ (inorder root.1 ++ way_behind way)))
      ascends = subst (AreAscending v) node_list reached.whole.ascending

      pub node-stands : (y : Pos) × IsEntryAtPosition v r y
      node-stands = let w = ascending-back v (way_before way ++ inorder root.0) (r ∷ (inorder root.1 ++ way_behind way)) ascends in (w.0.0, w.0.1)

      level : (h : ℕ) × (k : ℕ) × IsLevel (balance_of v) root.0 h × IsLevel (balance_of v) root.1 k × HasBalance Low (balance_of v r) h k here
      level = level-node (balance_of v) Low root.0 r root.1 here (subst (λ t. IsLevel (balance_of v) t here) root.2 reached.place.level)

      -- it stands at the position
      pub node-found : IsEntryAtPosition v r x → IsFound v refs x (Here r)
      node-found at_x =
          (way_before way ++ inorder root.0, inorder root.1 ++ way_behind way, node_list, at_x, ascending-split v (way_before way ++ inorder root.0) (inorder root.1 ++ way_behind way) r x at_x ascends)

      pub node-never : IsEntryAtPosition v r x → (front back : List Ref) → IsTree tree v (front ++ back) → BelongsBetween v x front back → ⊥
      node-never at_x front back h fits = never-at v x r (front ++ back)
          (subst (λ l. Contains l r) (sym node_list ∙ tree-once tree v refs (front ++ back) reached.whole h) (member-here (way_before way ++ inorder root.0) (inorder root.1 ++ way_behind way) r)) front back refl fits at_x

      -- one was compared, and less is left
      pub node-deep : 1 ≤ here
      node-deep = omega (arith, (leans-less Low (balance_of v r) level.0 level.1 here level.4).0)

      -- it stands before the position
      module _ (y : Pos) (stands : IsEntryAtPosition v r y) (less : IsBefore y x) where
        high_reached : IsReached tree v x (Obj r 4) next refs (ForkAt High r root.0 ∷ way) root.1 level.1 depth
        high_reached =
            let split = ascending-split v (way_before way ++ inorder root.0) (inorder root.1 ++ way_behind way) r y stands ascends in
            record {
              whole = reached.whole;
              place = record {
                form = subst (λ t. IsFormed tree v refs (plug way t)) root.2 reached.place.form;
                level = level.3;
                around = (level.0, here, level.2, leans-other Low (balance_of v r) level.0 level.1 here level.4, reached.place.around);
              };
              end = refl;
              before = all-both (λ q. StandsEarlier v q x) (way_before way) (inorder root.0 ++ (r ∷ [])) reached.before
                  (all-both (λ q. StandsEarlier v q x) (inorder root.0) (r ∷ []) (earlier y x (inorder root.0) less (all-back (λ q. StandsEarlier v q y) (way_before way) (inorder root.0) split.before)) ((y, stands, less), tt));
              behind = reached.behind;
              first = reached.first;
            }
          where
            earlier : (a b : Pos) (xs : List Ref) → IsBefore a b → AllByRecursion (λ q. StandsEarlier v q a) xs → AllByRecursion (λ q. StandsEarlier v q b) xs
            earlier a b xs less' h = all-mapped (λ q. StandsEarlier v q a) (λ q. StandsEarlier v q b) xs (λ q k. (k.0, k.1, before-trans k.0 a b k.2 less')) h

        pub node-high : (on : List Fork) × (u : TreeShape) × (below : ℕ) × IsReached tree v x (Obj r 4) next refs on u below depth × (length on ≡ length way + 1)
        node-high = (ForkAt High r root.0 ∷ way, root.1, level.1, high_reached, omega arith)

      -- it stands behind the position
      module _ (y : Pos) (stands : IsEntryAtPosition v r y) (more : IsBefore x y) where
        low_reached : IsReached tree v x (Obj r 3) (Some r) refs (ForkAt Low r root.1 ∷ way) root.0 level.0 depth
        low_reached =
            let split = ascending-split v (way_before way ++ inorder root.0) (inorder root.1 ++ way_behind way) r y stands ascends in
            record {
              whole = reached.whole;
              place = record {
                form = subst (λ t. IsFormed tree v refs (plug way t)) root.2 reached.place.form;
                level = level.2;
                around = (level.1, here, level.3, level.4, reached.place.around);
              };
              end = refl;
              before = subst (AllByRecursion (λ q. StandsEarlier v q x)) (sym (append-nil (way_before way))) reached.before;
              behind = ((y, stands, more), all-further v x y (inorder root.1 ++ way_behind way) more split.behind);
              first = refl;
            }

        pub node-low : (on : List Fork) × (u : TreeShape) × (below : ℕ) × IsReached tree v x (Obj r 3) (Some r) refs on u below depth × (length on ≡ length way + 1)
        node-low = (ForkAt Low r root.1 ∷ way, root.0, level.0, low_reached, omega arith)

      pub node-smaller : (f : ℕ) → (f ≡ 3) ⊎ (f ≡ 4) → size_below v (Obj r f) < size_below v at
      node-smaller f side =
          let form : IsFormed tree v refs (plug way (Node root.0 r root.1)) = subst (λ t. IsFormed tree v refs (plug way t)) root.2 reached.place.form in
          let low : shape_at (live_bytes v) (link_of v) (Obj r 3) ≡ root.0 = formed-read tree v refs well summed (ForkAt Low r root.1 ∷ way) root.0 form in
          let high : shape_at (live_bytes v) (link_of v) (Obj r 4) ≡ root.1 = formed-read tree v refs well summed (ForkAt High r root.0 ∷ way) root.1 form in
          let whole : shape_size s ≡ shape_size (Node root.0 r root.1) = ap shape_size root.2 in
          elim side [
            | inl is ↦ subst (λ n. size_below v (Obj r n) < size_below v at) (sym is) (omega (arith, reached_size, whole, ap shape_size low))
            | inr is ↦ subst (λ n. size_below v (Obj r n) < size_below v at) (sym is) (omega (arith, reached_size, whole, ap shape_size high))
          ]
