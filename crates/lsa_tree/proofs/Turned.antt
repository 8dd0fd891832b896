-- A tree after a rotation, and after balances were written.
use Rattle.std.proofs.Common.{◌≡◌, ◌≢◌, ℕ, List, inl, inr, refl, sym, ◌∙◌, subst, arith}
use Rattle.std.specs.Prelude.{Contains}
use Rattle.lsa_region.specs.Ref.{Ref}
use Rattle.lsa_region.specs.declared.end.End.{End}
use Rattle.lsa_region.specs.declared.end.End.TheVariants.{Obj}
use Rattle.lsa_region.specs.Region.{View, link_of, IsEnd, IsWell, SameObjects}
use Rattle.lsa_shape.specs.Paths.{same_object}
use Rattle.lsa_shape.specs.declared.flank.Flank.{Flank}
use Rattle.lsa_shape.specs.Flanks.{near_link, far_link}
use Rattle.lsa_shape.specs.Shapes.{TreeShape, inorder, IsIn, HangsAt, IsClearOf, StaysBeyond, node_on}
use Rattle.lsa_shape.specs.Ways.{Fork, plug, hole}
use Rattle.lsa_shape.specs.laws.Hanging.{in-listed, listed-in, hangs-moved}
use Rattle.lsa_shape.specs.laws.Places.{plug-changed, stays-out, plug-order, in-plug}
use Rattle.lsa_shape.specs.laws.Rotations.{hangs-turned, turned-stays, off-link}
use Rattle.lsa_shape.specs.laws.Sides.{near-low, near-most, far-most, node-in, inorder-turned, near-root}
use Rattle.lsa_tree.specs.declared.tree.Tree.{Tree}
use Rattle.lsa_tree.specs.calls.Placing.{IsFormed, IsTreeChanged, IsRebalanced, IsRotated}
use Rattle.lsa_tree.proofs.Placed.{body-there, formed-clear, formed-in, formed-there, formed-hole}
use Rattle.lsa_tree.proofs.Changed.{changed-top, changed-body, changed-links, changed-balance}

-- what a rotation asks for
abbrev pub Asks : View → Flank → End → Ref → Ref → Type 0
Asks v side at y x = IsEnd v at × (IsEnd v (Obj y (near_link side)) × (IsEnd v (Obj x (far_link side)) × ((at ≢ Obj y (near_link side)) × (Obj y (near_link side) ≢ Obj x (far_link side)))))

-- objects of trees with the same list
pub same-members : (s t : TreeShape) → inorder s ≡ inorder t → (z : Ref) → IsIn z s → IsIn z t
same-members s t same z i = listed-in t z (subst (λ l. Contains l z) same (in-listed s z i))

module _ (tree : Tree) (v w : View) (refs : List Ref) where
  -- where links stay
  pub formed-kept : (s : TreeShape) → ((e : End) → link_of w e ≡ link_of v e) → IsTreeChanged v w tree refs → IsFormed tree v refs s → IsFormed tree w refs s
  formed-kept s links changed f = record {
    top = changed-top v w tree refs changed tree.top f.top;
    entries = λ z i. changed-body v w tree refs changed z (f.entries z i);
    hangs = hangs-moved (link_of v) (link_of w) tree.top tree.top s (links tree.top) (λ z i. (links (Obj z 3), links (Obj z 4))) f.hangs;
    order = f.order;
  }

  pub formed-balance : (s : TreeShape) (r : Ref) (value : ℕ) → Contains refs r → IsRebalanced v w r value → IsFormed tree v refs s → IsFormed tree w refs s
  formed-balance s r value c h f = formed-kept s h.links (changed-balance v w tree refs r value c h) f

  -- where what hangs at a place was changed there, of the same objects in the same order
  module _ (well : IsWell v) (way : List Fork) (s t : TreeShape) (f : IsFormed tree v refs (plug way s)) (same : SameObjects v w) (here : HangsAt (link_of w) (hole tree.top way) t)
      (stays : StaysBeyond (link_of v) (link_of w) (hole tree.top way) (λ z. IsIn z s)) (order : inorder t ≡ inorder s) where
    pub changed-there : IsTreeChanged v w tree refs
    changed-there = changed-links v w tree refs same
        (stays-out (link_of v) (link_of w) well.paired tree.top way s (λ z. IsIn z s) (Contains refs) (λ z i. formed-in tree v refs (plug way s) f z (in-plug way s z i)) (λ z i. formed-in tree v refs (plug way s) f z i) stays)

    pub formed-there_changed : IsFormed tree w refs (plug way t)
    formed-there_changed = record {
      top = changed-top v w tree refs changed-there tree.top f.top;
      entries = λ z i. changed-body v w tree refs changed-there z (f.entries z (same-members (plug way t) (plug way s) (plug-order way s t order) z i));
      hangs = plug-changed (link_of v) (link_of w) well.paired tree.top way s t (λ z. IsIn z s) f.hangs (formed-clear tree v refs (plug way s) f) here stays (λ z i. inl i);
      order = plug-order way s t order ∙ f.order;
    }

-- a place where a rotation can be made
module _ (tree : Tree) (v : View) (refs : List Ref) (well : IsWell v) (way : List Fork) (flank : Flank) (a b c : TreeShape) (x y : Ref) (f : IsFormed tree v refs (plug way (node_on flank (node_on flank a x b) y c))) where
  abbrev inner : TreeShape
  inner = node_on flank a x b

  abbrev whole : TreeShape
  whole = node_on flank (node_on flank a x b) y c

  at : HangsAt (link_of v) (hole tree.top way) whole × IsClearOf (hole tree.top way) whole
  at = formed-hole tree v refs well way whole f

  pub turn-y : IsIn y (plug way whole)
  turn-y = in-plug way whole y (node-in flank inner y c y (inl refl))

  pub turn-x : IsIn x (plug way whole)
  turn-x = in-plug way whole x (node-in flank inner y c x (inr (inl (node-in flank a x b x (inl refl)))))

  pub turn-apart : x ≢ y
  turn-apart same = near-root (link_of v) well.paired flank (hole tree.top way) inner y c at.0 at.1 (subst (λ z. IsIn z inner) same (node-in flank a x b x (inl refl)))

  pub turn-asks : Asks v flank (hole tree.top way) y x
  turn-asks = (
    formed-there tree v refs way whole f,
    (
      body-there v y (near_link flank) (f.entries y turn-y) (near-most flank),
      (
        body-there v x (far_link flank) (f.entries x turn-x) (far-most flank),
        (
          off-link (hole tree.top way) y (near_link flank) (omega (arith, near-low flank)) (near-most flank) (at.1 y (node-in flank inner y c y (inl refl))),
          λ e. turn-apart (sym (same_object y x (near_link flank) (far_link flank) e)),
        ),
      ),
    ),
  )

  module _ (w : View) (turned : IsRotated (link_of v) (link_of w) flank (hole tree.top way) y x) (same : SameObjects v w) where
    pub turned-formed : IsFormed tree w refs (plug way (node_on flank a x (node_on flank b y c)))
    turned-formed = formed-there_changed tree v w refs well way whole (node_on flank a x (node_on flank b y c)) f same
        (hangs-turned (link_of v) turned.middle (link_of w) well.paired flank (hole tree.top way) x y turned.first turned.second a b c at.0 at.1)
        (turned-stays (link_of v) turned.middle (link_of w) well.paired flank (hole tree.top way) x y turned.first turned.second a b c at.0 at.1) (inorder-turned flank a x b y c)

    pub turned-changed : IsTreeChanged v w tree refs
    turned-changed = changed-there tree v w refs well way whole (node_on flank a x (node_on flank b y c)) f same
        (hangs-turned (link_of v) turned.middle (link_of w) well.paired flank (hole tree.top way) x y turned.first turned.second a b c at.0 at.1)
        (turned-stays (link_of v) turned.middle (link_of w) well.paired flank (hole tree.top way) x y turned.first turned.second a b c at.0 at.1) (inorder-turned flank a x b y c)
