-- An entry cut off that has nothing on its far side.
use Rattle.std.proofs.Common.{◌≡◌, ◌≢◌, ℕ, suc, ◌≤◌, ◌++◌, Option, Some, None, IsSome, is_some, inl, inr, refl, sym, ap, ◌∙◌, subst, arith}
use Rattle.std.specs.Prelude.{Contains}
use Rattle.std.specs.Option.{option_map}
use Rattle.lsa_region.specs.Ref.{Ref}
use Rattle.lsa_region.specs.declared.end.End.{End}
use Rattle.lsa_region.specs.declared.end.End.TheVariants.{Obj}
use Rattle.lsa_region.specs.Ends.{swapped_end}
use Rattle.lsa_region.specs.Paired.{IsExchanged, IsParted}
use Rattle.lsa_region.specs.Region.{View, body, link_of, IsEnd, IsWell, SameObjects}
use Rattle.lsa_region.specs.laws.Exchanges.{swap-other, swap-second}
use Rattle.lsa_shape.specs.Paths.{same_object, same_field, same_some}
use Rattle.lsa_shape.specs.declared.flank.Flank.{Flank}
use Rattle.lsa_shape.specs.Flanks.{near_link, far_link}
use Rattle.lsa_shape.specs.Shapes.{TreeShape, Leaf, inorder, IsIn, HangsAt, IsClearOf, StaysBeyond, node_on}
use Rattle.lsa_shape.specs.Ways.{plug, hole, way_before, way_behind}
use Rattle.lsa_shape.specs.Levels.{HasBalance, IsLevelAround}
use Rattle.lsa_shape.specs.laws.Depths.{level-node, plug-level, level-kept, around-kept}
use Rattle.lsa_shape.specs.laws.Hanging.{names-in, hangs-moved}
use Rattle.lsa_shape.specs.laws.Places.{plug-changed, stays-out, in-plug, plug-in, around-plug, inorder-plug}
use Rattle.lsa_shape.specs.laws.Rotations.{off-link, hangs-swapped, hangs-beside, stays-beside}
use Rattle.lsa_shape.specs.laws.Sides.{near-low, near-most, far-low, far-most, near_differs, node-in, hangs-node, near-root, near-clear, link-sides}
use Rattle.lsa_tree.specs.Entries.{balance_in, balance_of}
use Rattle.lsa_tree.specs.calls.Placing.{IsEntryBody, IsFormed, IsTreeChanged, Loosened, IsCut}
use Rattle.lsa_tree.proofs.Placed.{body-there, formed-clear, formed-in, formed-there, formed-hole}
use Rattle.lsa_tree.proofs.Changed.{changed-body, changed-links, changed-top}

same_then : (u v w : View) → SameObjects u v → SameObjects v w → SameObjects u w
same_then u v w a b = record {
  bodies = λ r. b.bodies r ∙ a.bodies r;
  ends = λ e h. b.ends e (a.ends e h);
  gone = λ e h. a.gone e (b.gone e h);
  spots = λ r. b.spots r ∙ a.spots r;
  slots = b.slots ∙ a.slots;
  usages = b.usages ∙ a.usages;
  epoch = b.epoch ∙ a.epoch;
  moved = b.moved ∙ a.moved;
  compacted = b.compacted ∙ a.compacted;
}

module _ (v : View) (well : IsWell v) (flank : Flank) (r : Ref) (l : Loosened v flank r) where
  abbrev node : TreeShape
  node = node_on flank l.near r Leaf

  abbrev place : End
  place = hole l.tree.top l.way

  hangs : HangsAt (link_of v) place node × IsClearOf place node
  hangs = formed-hole l.tree v l.refs well l.way node l.form

  parts : (link_of v place ≡ Some (Obj r 2)) × HangsAt (link_of v) (Obj r (near_link flank)) l.near × (link_of v (Obj r (far_link flank)) ≡ None)
  parts = hangs-node (link_of v) flank place l.near r Leaf hangs.0

  root_in : IsIn r node
  root_in = node-in flank l.near r Leaf r (inl refl)

  near_in : (z : Ref) → IsIn z l.near → IsIn z node
  near_in z i = node-in flank l.near r Leaf z (inr (inl i))

  near_not : IsIn r l.near → ⊥
  near_not = near-root (link_of v) well.paired flank place l.near r Leaf hangs.0 hangs.1

  place_link : (z : Ref) (f : ℕ) → IsIn z node → 2 ≤ f → f ≤ 4 → place ≢ Obj z f
  place_link z f i low high = off-link place z f low high (hangs.1 z i)

  pub loosened-body : IsEntryBody (body v r)
  loosened-body = l.form.entries r (in-plug l.way node r root_in)

  door : link_of v (Obj r 2) ≡ Some place
  door = well.paired.mates place (Obj r 2) parts.0

  pub loosened-door : IsEnd v (Obj r 2) × IsSome (link_of v (Obj r 2))
  loosened-door = (body-there v r 2 loosened-body (omega arith), ap is_some door)

  module _ (at : End) (is : link_of v (Obj r 2) ≡ Some at) where
    at_is : hole l.tree.top l.way ≡ at
    at_is = let both : ◌≡◌ {A = Option End} (Some (hole l.tree.top l.way)) (Some at) = sym door ∙ is in cc

    pub cut-asks : IsEnd v at × (IsEnd v (Obj r (near_link flank)) × (at ≢ Obj r (near_link flank)))
    cut-asks = subst (λ e. IsEnd v e × (IsEnd v (Obj r (near_link flank)) × (e ≢ Obj r (near_link flank)))) at_is (
      formed-there l.tree v l.refs l.way node l.form,
      (body-there v r (near_link flank) loosened-body (near-most flank), place_link r (near_link flank) root_in (omega (arith, near-low flank)) (near-most flank)),
    )

    module _ (m : View) (well_m : IsWell m) (exchanged : IsExchanged (link_of v) (link_of m) at (Obj r (near_link flank))) (same_m : SameObjects v m) where
      ex : IsExchanged (link_of v) (link_of m) (hole l.tree.top l.way) (Obj r (near_link flank))
      ex = subst (λ e. IsExchanged (link_of v) (link_of m) e (Obj r (near_link flank))) (sym at_is) exchanged

      apart : place ≢ Obj r (near_link flank)
      apart = place_link r (near_link flank) root_in (omega (arith, near-low flank)) (near-most flank)

      two_near : Obj r 2 ≢ Obj r (near_link flank)
      two_near e = let w = near-low flank in let same = same_field r r 2 (near_link flank) e in omega (arith, w, same)

      near_clear : IsClearOf (Obj r (near_link flank)) l.near
      near_clear = near-clear (link_of v) well.paired flank place l.near r Leaf hangs.0 hangs.1 (near_link flank)

      -- what was on the near side hangs at the place
      near_moved : HangsAt (link_of m) place l.near
      near_moved = subst (λ e. HangsAt (link_of m) e l.near) (swap-second place (Obj r (near_link flank)) apart)
          (hangs-swapped (link_of v) (link_of m) place (Obj r (near_link flank)) ex apart (Obj r (near_link flank)) l.near (λ z i. hangs.1 z (near_in z i)) near_clear parts.1)

      -- and the entry below itself
      loop_near : link_of m (Obj r (near_link flank)) ≡ Some (Obj r 2)
      loop_near = ex.second ∙ ap (option_map (swapped_end place (Obj r (near_link flank)))) parts.0
          ∙ ap (λ e. Some e) (swap-other place (Obj r (near_link flank)) (Obj r 2) (λ e. place_link r 2 root_in (omega arith) (omega arith) (sym e)) two_near)

      loop_back : link_of m (Obj r 2) ≡ Some (Obj r (near_link flank))
      loop_back = well_m.paired.mates (Obj r (near_link flank)) (Obj r 2) loop_near

      far_unset : link_of m (Obj r (far_link flank)) ≡ None
      far_unset = hangs-beside (link_of v) (link_of m) place (Obj r (near_link flank)) ex apart (Obj r (far_link flank)) Leaf
          (λ e. place_link r (far_link flank) root_in (omega (arith, far-low flank)) (far-most flank) (sym e)) (λ e. near_differs flank (sym (same_field r r (far_link flank) (near_link flank) e))) (λ z i. absurd i) (λ z i. absurd i) parts.2

      pub cut-unlink : IsEnd m (Obj r 2) × IsSome (link_of m (Obj r 2))
      cut-unlink = (same_m.ends (Obj r 2) (body-there v r 2 loosened-body (omega arith)), ap is_some loop_back)

      module _ (w : View) (mate : End) (named : link_of m (Obj r 2) ≡ Some mate) (parted : IsParted (link_of m) (link_of w) (Obj r 2) mate) (same_w : SameObjects m w) where
        mate_is : mate ≡ Obj r (near_link flank)
        mate_is = same_some mate (Obj r (near_link flank)) (sym named ∙ loop_back)

        parts_of : IsParted (link_of m) (link_of w) (Obj r 2) (Obj r (near_link flank))
        parts_of = subst (IsParted (link_of m) (link_of w) (Obj r 2)) mate_is parted

        same : SameObjects v w
        same = same_then v m w same_m same_w

        here_w : HangsAt (link_of w) place l.near
        here_w = hangs-moved (link_of m) (link_of w) place place l.near
            (parts_of.others place (place_link r 2 root_in (omega arith) (omega arith)) apart)
            (λ z i. let other = λ (f g : ℕ) (e : Obj z f ≡ Obj r g). near_not (subst (λ y. IsIn y l.near) (same_object z r f g e) i) in
            (parts_of.others (Obj z 3) (other 3 2) (other 3 (near_link flank)), parts_of.others (Obj z 4) (other 4 2) (other 4 (near_link flank)))) near_moved

        stays : StaysBeyond (link_of v) (link_of w) place (λ z. IsIn z node)
        stays e ne off =
            let off_r = off r root_in in let no_near = off-link e r (near_link flank) (omega (arith, near-low flank)) (near-most flank) off_r in
            parts_of.others e off_r.0 no_near
            ∙ stays-beside (link_of v) (link_of m) place (Obj r (near_link flank)) ex apart well.paired e ne no_near
            (λ n. off_r.0 (same_some e (Obj r 2) (sym n ∙ parts.0)))
            (λ n. let z = names-in (link_of v) (Obj r (near_link flank)) l.near parts.1 e n in (off z.0 (near_in z.0 z.1)).0 z.2)

        changed : IsTreeChanged v w l.tree l.refs
        changed = changed-links v w l.tree l.refs same
            (stays-out (link_of v) (link_of w) well.paired l.tree.top l.way node (λ z. IsIn z node) (Contains l.refs) (λ z i. formed-in l.tree v l.refs (plug l.way node) l.form z (in-plug l.way node z i)) (λ z i. formed-in l.tree v l.refs (plug l.way node) l.form z i) stays)

        old_in : (z : Ref) → IsIn z (plug l.way l.near) → IsIn z (plug l.way node)
        old_in z i = elim (plug-in l.way l.near z i) [ inl near ↦ in-plug l.way node z (near_in z near) | inr around ↦ around-plug l.way node z around ]

        form : IsFormed l.tree w (way_before l.way ++ (inorder l.near ++ way_behind l.way)) (plug l.way l.near)
        form = record {
          top = changed-top v w l.tree l.refs changed l.tree.top l.form.top;
          entries = λ z i. changed-body v w l.tree l.refs changed z (l.form.entries z (old_in z i));
          hangs = plug-changed (link_of v) (link_of w) well.paired l.tree.top l.way node l.near (λ z. IsIn z node) l.form.hangs (formed-clear l.tree v l.refs (plug l.way node) l.form) here_w stays (λ z i. inl i);
          order = inorder-plug l.way l.near;
        }

        level_same : (z : Ref) → balance_of w z ≡ balance_of v z
        level_same z = ap balance_in (same.bodies z)

        deep : (h k : ℕ) → k ≡ 0 → (n : ℕ) → HasBalance flank (balance_of v r) h k n → n ≡ suc h
        deep h k zero_k n (inl a) = omega (arith, zero_k, a.1, a.2)
        deep h k zero_k n (inr (inl a)) = a.2
        deep h k zero_k n (inr (inr a)) = absurd (omega (arith, zero_k, a.1))

        unset_near : link_of w (Obj r (near_link flank)) ≡ None
        unset_near = parts_of.second

        unset_far : link_of w (Obj r (far_link flank)) ≡ None
        unset_far = parts_of.others (Obj r (far_link flank)) (λ e. let a = far-low flank in let b = same_field r r (far_link flank) 2 e in omega (arith, a, b)) (λ e. near_differs flank (sym (same_field r r (far_link flank) (near_link flank) e))) ∙ far_unset

        pub cut-is : IsCut v w flank r l at
        cut-is =
            let around = plug-level (balance_of v) l.way node l.depth l.level in
            let inner = level-node (balance_of v) flank l.near r Leaf around.0 around.1 in
            let sides = link-sides flank (λ f. link_of w (Obj r f) ≡ None) unset_near unset_far in
            record {
              here = inner.0;
              place = record {
                form = form;
                level = level-kept (balance_of v) (balance_of w) l.near inner.0 (λ z i. level_same z) inner.2;
                around = around-kept (balance_of v) (balance_of w) l.way (suc inner.0) l.depth (λ z i. level_same z)
                    (subst (λ n. IsLevelAround (balance_of v) l.way n l.depth) (deep inner.0 inner.1 inner.3 around.0 inner.4) around.2);
              };
              end = at_is;
              parent = parts_of.first;
              left = sides.0;
              right = sides.1;
              changed = changed;
            }
