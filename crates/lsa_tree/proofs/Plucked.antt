-- An entry out of its tree.
use Rattle.std.proofs.Common.{◌≡◌, ◌≢◌, ℕ, suc, ◌<◌, List, [], ◌∷◌, ◌++◌, Option, Some, None, inl, inr, refl, sym, ap, ◌∙◌, subst, map, arith}
use Rattle.std.specs.Prelude.{Contains, AllPairs}
use Rattle.std.specs.Option.{option_map}
use Rattle.std.proofs.lemmas.List.{append_assoc, map-append}
use Rattle.std.proofs.lemmas.List.Elements.{Contains-append_left, Contains-append_right, Contains-append_cases}
use Rattle.lsa_region.specs.Ref.{Ref}
use Rattle.lsa_region.specs.declared.end.End.{End}
use Rattle.lsa_region.specs.declared.end.End.TheVariants.{Obj}
use Rattle.lsa_region.specs.calls.Ends.{swapped_ref}
use Rattle.lsa_region.specs.Region.{View, body, link_of, IsWell}
use Rattle.lsa_region.specs.laws.Refs.{swap-here, swap-there, swap-else}
use Rattle.lsa_shape.specs.Path.{entered_object}
use Rattle.lsa_shape.specs.Members.{member-cases, member-first, member-later, member-here, map-members, once-split}
use Rattle.lsa_shape.specs.declared.flank.Flank.{Flank}
use Rattle.lsa_shape.specs.declared.flank.Flank.TheVariants.{Low, High}
use Rattle.lsa_shape.specs.Shapes.{TreeShape, Leaf, Node, inorder, IsIn, HangsAt, node_on, shape_by}
use Rattle.lsa_shape.specs.Ways.{Fork, plug, hole, way_before, way_behind}
use Rattle.lsa_shape.specs.Levels.{IsLevel}
use Rattle.lsa_shape.specs.laws.Depths.{level-plug, level-small}
use Rattle.lsa_shape.specs.laws.Hanging.{by-in, names-none}
use Rattle.lsa_shape.specs.laws.Places.{inorder-plug, way-to}
use Rattle.lsa_shape.specs.laws.Reading.{inorder-once}
use Rattle.lsa_tree.specs.declared.tree.Tree.{Tree}
use Rattle.lsa_tree.specs.Entries.{balance_of}
use Rattle.lsa_tree.specs.Search.{first_entry}
use Rattle.lsa_tree.specs.Tree.{IsTree}
use Rattle.lsa_tree.specs.calls.Placing.{IsEntryBody, IsFormed, IsPlaced, IsTreeChanged, IsTraded, Loosened, IsCut, IsOut, traded_end}
use Rattle.lsa_tree.specs.laws.Trees.{in-tree, tree-in, tree-pairs}
use Rattle.lsa_tree.proofs.Placed.{below-none, formed-clear, formed-hole, formed-member, split-once, tree-at, tree-formed}
use Rattle.lsa_tree.proofs.Changed.{changed-then, changed-wider}
use Rattle.lsa_tree.proofs.Exchanged.{traded-changed, traded-formed, traded-levels}
use Rattle.lsa_tree.proofs.Traded.{traded-end}

-- the list of a tree at an entry with nothing on its far side, and without it
cut_list : (flank : Flank) (way : List Fork) (near : TreeShape) (r : Ref) → (front : List Ref) × (back : List Ref) × (inorder (plug way (node_on flank near r Leaf)) ≡ front ++ (r ∷ back)) × (way_before way ++ (inorder near ++ way_behind way) ≡ front ++ back)
cut_list Low way near r = (
  way_before way ++ inorder near,
  way_behind way,
  inorder-plug way (Node near r Leaf) ∙ ap (λ l. way_before way ++ l) (append_assoc (inorder near) (r ∷ []) (way_behind way)) ∙ sym (append_assoc (way_before way) (inorder near) (r ∷ way_behind way)),
  sym (append_assoc (way_before way) (inorder near) (way_behind way)),
)
cut_list High way near r = (way_before way, inorder near ++ way_behind way, inorder-plug way (Node Leaf r near), refl)

-- what is left where the list is known
pub cut-rest : (flank : Flank) (way : List Fork) (near : TreeShape) (r : Ref) (front back : List Ref) → AllPairs ◌≢◌ (front ++ (r ∷ back)) → inorder (plug way (node_on flank near r Leaf)) ≡ front ++ (r ∷ back)
    → way_before way ++ (inorder near ++ way_behind way) ≡ front ++ back
cut-rest flank way near r front back once is =
    let w = cut_list flank way near r in let s = split-once front back w.0 w.1 r once (sym is ∙ w.2) in
    w.3 ∙ (λ i. sym s.0 i ++ sym s.1 i)

module _ (tree : Tree) (v : View) (well : IsWell v) (front back : List Ref) (r : Ref) (h : IsTree tree v (front ++ (r ∷ back))) where
  old_form : IsFormed tree v (front ++ (r ∷ back)) h.form.0
  old_form = tree-formed tree v (front ++ (r ∷ back)) h

  once : AllPairs ◌≢◌ (front ++ (r ∷ back))
  once = tree-pairs tree v well (front ++ (r ∷ back)) h

  pub plucked-body : IsEntryBody (body v r)
  plucked-body = formed-member tree v (front ++ (r ∷ back)) h.form.0 old_form r (member-here front back r)

  -- with nothing on a side
  abbrev pub loosened-at : (flank : Flank) (way : List Fork) (near : TreeShape) (here depth : ℕ) (s : TreeShape) → IsPlaced tree v (front ++ (r ∷ back)) way s here here depth → s ≡ node_on flank near r Leaf → Loosened v flank r
  loosened-at flank way near here depth s place is = record {
    tree = tree;
    refs = front ++ (r ∷ back);
    way = way;
    near = near;
    depth = depth;
    form = subst (λ t. IsFormed tree v (front ++ (r ∷ back)) (plug way t)) is place.form;
    level = subst (λ t. IsLevel (balance_of v) (plug way t) depth) is (level-plug (balance_of v) way s here depth place.level place.around);
  }

  pub at : (way : List Fork) × (l : TreeShape) × (t : TreeShape) × (here : ℕ) × (depth : ℕ) × IsPlaced tree v (front ++ (r ∷ back)) way (Node l r t) here here depth × (front ≡ way_before way ++ inorder l) × (back ≡ inorder t ++ way_behind way)
  at = tree-at tree v well front back r h

  hangs : HangsAt (link_of v) (hole tree.top at.0) (Node at.1 r at.2)
  hangs = (formed-hole tree v (front ++ (r ∷ back)) well at.0 (Node at.1 r at.2) at.5.form).0

  pub left_leaf : link_of v (Obj r 3) ≡ None → Node at.1 r at.2 ≡ node_on High at.2 r Leaf
  left_leaf none = ap (λ s. Node s r at.2) (below-none (link_of v) (Obj r 3) at.1 hangs.1 (ap (entered_object 2) none))

  pub right_leaf : link_of v (Obj r 4) ≡ None → Node at.1 r at.2 ≡ node_on Low at.1 r Leaf
  right_leaf none = ap (λ s. Node at.1 r s) (below-none (link_of v) (Obj r 4) at.2 hangs.2 (ap (entered_object 2) none))

  abbrev pub loosened-left : link_of v (Obj r 3) ≡ None → Loosened v High r
  loosened-left none = loosened-at High at.0 at.2 at.3 at.4 (Node at.1 r at.2) at.5 (left_leaf none)

  abbrev pub loosened-right : link_of v (Obj r 4) ≡ None → Loosened v Low r
  loosened-right none = loosened-at Low at.0 at.1 at.3 at.4 (Node at.1 r at.2) at.5 (right_leaf none)

  -- it is out then
  module _ (w : View) (end : End) where
    abbrev pub IsOutOf : Type 0
    IsOutOf = (way : List Fork) × (shape : TreeShape) × (here : ℕ) × (depth : ℕ) × IsOut v w tree (front ++ (r ∷ back)) (front ++ back) r end way shape here depth

    out_of : (flank : Flank) (way : List Fork) (near : TreeShape) (here depth : ℕ) (s : TreeShape) (place : IsPlaced tree v (front ++ (r ∷ back)) way s here here depth) (is : s ≡ node_on flank near r Leaf) → IsCut v w flank r (loosened-at flank way near here depth s place is) end → IsOutOf
    out_of flank way near here depth s place is cut = (
      way,
      near,
      cut.here,
      depth,
      record {
        place = subst (λ xs. IsPlaced tree w xs way near cut.here (suc cut.here) depth)
            (cut-rest flank way near r front back once (ap (λ t. inorder (plug way t)) (sym is) ∙ place.form.order)) cut.place;
        end = cut.end;
        parent = cut.parent;
        left = cut.left;
        right = cut.right;
        changed = cut.changed;
      },
    )

    pub out-left : (none : link_of v (Obj r 3) ≡ None) → IsCut v w High r (loosened-left none) end → IsOutOf
    out-left none cut = out_of High at.0 at.2 at.3 at.4 (Node at.1 r at.2) at.5 (left_leaf none) cut

    pub out-right : (none : link_of v (Obj r 4) ≡ None) → IsCut v w Low r (loosened-right none) end → IsOutOf
    out-right none cut = out_of Low at.0 at.1 at.3 at.4 (Node at.1 r at.2) at.5 (right_leaf none) cut

  -- nothing on the left
  pub unset-left : entered_object 2 (link_of v (Obj r 3)) ≡ None → link_of v (Obj r 3) ≡ None
  unset-left none = subst (HangsAt (link_of v) (Obj r 3)) (below-none (link_of v) (Obj r 3) at.1 hangs.1 none) hangs.1

  -- ---- where it changed places with the next one

  module _ (next : Ref) (rest : List Ref) (follows : back ≡ next ∷ rest) (unset : link_of v (Obj next 3) ≡ None) where
    next_member : Contains (front ++ (r ∷ back)) next
    next_member = Contains-append_right front (r ∷ back) next (member-later r next back (subst (λ l. Contains l next) (sym follows) (member-first next rest)))

    pub next-body : IsEntryBody (body v next)
    next-body = formed-member tree v (front ++ (r ∷ back)) h.form.0 old_form next next_member

    pub next-apart : r ≢ next
    next-apart same = once-split front back r once (subst (Contains (front ++ back)) (sym same) (Contains-append_right front back next (subst (λ l. Contains l next) (sym follows) (member-first next rest))))

    pub next-few : (balance_of v r < 256) × (balance_of v next < 256)
    next-few = (
      omega (arith, level-small (balance_of v) h.form.0 h.form.1 r h.form.3 (in-tree tree v (front ++ (r ∷ back)) r h (member-here front back r))),
      omega (arith, level-small (balance_of v) h.form.0 h.form.1 next h.form.3 (in-tree tree v (front ++ (r ∷ back)) next h next_member)),
    )

    module _ (m : View) (well_m : IsWell m) (t : IsTraded v m r next) where
      -- the list with the two changed
      once_long : AllPairs ◌≢◌ (front ++ (r ∷ (next ∷ rest)))
      once_long = subst (λ l. AllPairs ◌≢◌ (front ++ (r ∷ l))) follows once

      not_r : (z : Ref) → Contains (front ++ (next ∷ rest)) z → z ≢ r
      not_r z c same = once-split front (next ∷ rest) r once_long (subst (Contains (front ++ (next ∷ rest))) same c)

      once_next : AllPairs ◌≢◌ ((front ++ (r ∷ [])) ++ (next ∷ rest))
      once_next = subst (AllPairs ◌≢◌) (sym (append_assoc front (r ∷ []) (next ∷ rest))) once_long

      not_next : (z : Ref) → Contains ((front ++ (r ∷ [])) ++ rest) z → z ≢ next
      not_next z c same = once-split (front ++ (r ∷ [])) rest next once_next (subst (Contains ((front ++ (r ∷ [])) ++ rest)) same c)

      in_front : (z : Ref) → Contains front z → swapped_ref r next z ≡ z
      in_front z c = swap-else r next z (not_r z (Contains-append_left front (next ∷ rest) z c)) (not_next z (Contains-append_left (front ++ (r ∷ [])) rest z (Contains-append_left front (r ∷ []) z c)))

      in_rest : (z : Ref) → Contains rest z → swapped_ref r next z ≡ z
      in_rest z c = swap-else r next z (not_r z (Contains-append_right front (next ∷ rest) z (member-later next z rest c))) (not_next z (Contains-append_right (front ++ (r ∷ [])) rest z c))

      names : map (swapped_ref r next) (front ++ (r ∷ back)) ≡ (front ++ (next ∷ [])) ++ (r ∷ rest)
      names = ap (λ l. map (swapped_ref r next) (front ++ (r ∷ l))) follows ∙ map-append (swapped_ref r next) front (r ∷ (next ∷ rest))
          ∙ (λ i. map-members (swapped_ref r next) front in_front i ++ (swap-here r next i ∷ (swap-there r next (λ e. next-apart (sym e)) i ∷ map-members (swapped_ref r next) rest in_rest i)))
          ∙ sym (append_assoc front (next ∷ []) (r ∷ rest))

      new_form : IsFormed tree m ((front ++ (next ∷ [])) ++ (r ∷ rest)) (shape_by (swapped_ref r next) h.form.0)
      new_form = subst (λ l. IsFormed tree m l (shape_by (swapped_ref r next) h.form.0)) names (traded-formed tree v m well r next next-apart t plucked-body next-body (front ++ (r ∷ back)) h.form.0 old_form)

      pub new_level : IsLevel (balance_of m) (shape_by (swapped_ref r next) h.form.0) h.form.1
      new_level = traded-levels tree v m well r next next-apart t plucked-body next-body (front ++ (r ∷ back)) h.form.0 old_form h.form.1 h.form.3

      pub to_r : (way : List Fork) × (a : TreeShape) × (b : TreeShape) × (plug way (Node a r b) ≡ shape_by (swapped_ref r next) h.form.0)
      to_r = way-to [] (shape_by (swapped_ref r next) h.form.0) r
          (subst (λ z. IsIn z (shape_by (swapped_ref r next) h.form.0)) (swap-there r next (λ e. next-apart (sym e))) (by-in (swapped_ref r next) h.form.0 next (in-tree tree v (front ++ (r ∷ back)) next h next_member)))

      pub form_r : IsFormed tree m ((front ++ (next ∷ [])) ++ (r ∷ rest)) (plug to_r.0 (Node to_r.1 r to_r.2))
      form_r = subst (IsFormed tree m ((front ++ (next ∷ [])) ++ (r ∷ rest))) (sym to_r.3) new_form

      left_none : link_of m (Obj r 3) ≡ None
      left_none = ap (link_of m) (sym (traded-end r next next-apart next 3 (omega arith) (omega arith) ∙ ap (λ z. Obj z 3) (swap-there r next (λ e. next-apart (sym e))))) ∙ t.links (Obj next 3) ∙ ap (option_map (traded_end r next)) unset

      pub leaf : Node to_r.1 r to_r.2 ≡ node_on High to_r.2 r Leaf
      leaf = ap (λ s. Node s r to_r.2) (below-none (link_of m) (Obj r 3) to_r.1 (formed-hole tree m ((front ++ (next ∷ [])) ++ (r ∷ rest)) well_m to_r.0 (Node to_r.1 r to_r.2) form_r).0.1 (ap (entered_object 2) left_none))

      abbrev pub loosened-next : Loosened m High r
      loosened-next = record {
        tree = tree;
        refs = (front ++ (next ∷ [])) ++ (r ∷ rest);
        way = to_r.0;
        near = to_r.2;
        depth = h.form.1;
        form = subst (λ s. IsFormed tree m ((front ++ (next ∷ [])) ++ (r ∷ rest)) (plug to_r.0 s)) leaf form_r;
        level = subst (λ s. IsLevel (balance_of m) (plug to_r.0 s) h.form.1) leaf (subst (λ s. IsLevel (balance_of m) s h.form.1) (sym to_r.3) new_level);
      }

      once_new : AllPairs ◌≢◌ ((front ++ (next ∷ [])) ++ (r ∷ rest))
      once_new = subst (AllPairs ◌≢◌) new_form.order (inorder-once (link_of m) well_m.paired tree.top (shape_by (swapped_ref r next) h.form.0) new_form.hangs (formed-clear tree m ((front ++ (next ∷ [])) ++ (r ∷ rest)) (shape_by (swapped_ref r next) h.form.0) new_form))

      traded_change : IsTreeChanged v m tree (front ++ (r ∷ back))
      traded_change = traded-changed tree v m well r next next-apart t plucked-body next-body (front ++ (r ∷ back)) h.form.0 old_form (front ++ (r ∷ back))
          (λ z i. tree-in tree v (front ++ (r ∷ back)) z h i) (member-here front back r) next_member
          (λ e no_top off n low high. (
            names-none (link_of v) well.paired tree.top h.form.0 h.form.2 r n (in-tree tree v (front ++ (r ∷ back)) r h (member-here front back r)) low high e no_top (λ z i. off z (tree-in tree v (front ++ (r ∷ back)) z h i)),
            names-none (link_of v) well.paired tree.top h.form.0 h.form.2 next n (in-tree tree v (front ++ (r ∷ back)) next h next_member) low high e no_top (λ z i. off z (tree-in tree v (front ++ (r ∷ back)) z h i)),
          ))

      -- the members are the same
      back_in : (z : Ref) → Contains ((front ++ (next ∷ [])) ++ (r ∷ rest)) z → Contains (front ++ (r ∷ back)) z
      back_in z c = elim (Contains-append_cases (front ++ (next ∷ [])) (r ∷ rest) z c) [
        | inl ahead ↦ elim (Contains-append_cases front (next ∷ []) z ahead) [
          | inl first ↦ Contains-append_left front (r ∷ back) z first
          | inr one ↦ elim (member-cases next z [] one) [ inl is ↦ subst (Contains (front ++ (r ∷ back))) is next_member | inr none ↦ absurd (omega (arith, none.1)) ]
        ]
        | inr later ↦ elim (member-cases r z rest later) [
          | inl is ↦ subst (Contains (front ++ (r ∷ back))) is (member-here front back r)
          | inr last ↦ Contains-append_right front (r ∷ back) z (member-later r z back (subst (λ l. Contains l z) (sym follows) (member-later next z rest last)))
        ]
      ]

      pub out-next : (w : View) (end : End) → IsCut m w High r loosened-next end → IsOutOf w end
      out-next w end cut = (
        to_r.0,
        to_r.2,
        cut.here,
        h.form.1,
        record {
          place = subst (λ xs. IsPlaced tree w xs to_r.0 to_r.2 cut.here (suc cut.here) h.form.1)
              (cut-rest High to_r.0 to_r.2 r (front ++ (next ∷ [])) rest once_new (ap (λ s. inorder (plug to_r.0 s)) (sym leaf) ∙ form_r.order) ∙ append_assoc front (next ∷ []) rest ∙ ap (λ l. front ++ l) (sym follows)) cut.place;
          end = cut.end;
          parent = cut.parent;
          left = cut.left;
          right = cut.right;
          changed = changed-then v m tree (front ++ (r ∷ back)) w traded_change (changed-wider m w tree ((front ++ (next ∷ [])) ++ (r ∷ rest)) (front ++ (r ∷ back)) back_in cut.changed);
        },
      )

pub first-splits : (xs : List Ref) (q : Ref) → first_entry xs ≡ Some q → (rest : List Ref) × (xs ≡ q ∷ rest)
first-splits [] q is = absurd (let clash : ◌≡◌ {A = Option Ref} None (Some q) = is in cc)
first-splits (x ∷ xs) q is = let same : x ≡ q = cc in (xs, ap (λ z. z ∷ xs) same)
