-- An entry that is deeper on a side by two is balanced, where what is there is deeper on the other side.
use Rattle.std.proofs.Common.{◌≡◌, ◌≢◌, ℕ, suc, true, false, ◌∷◌, Some, IsSome, is_some, inl, inr, refl, sym, ap, ◌∙◌, subst, arith}
use Rattle.std.specs.Prelude.{Contains}
use Rattle.lsa_region.specs.Ref.{Ref}
use Rattle.lsa_region.specs.declared.end.End.{End}
use Rattle.lsa_region.specs.declared.end.End.TheVariants.{Obj}
use Rattle.lsa_region.specs.Region.{View, body, link_of, IsEnd, IsWell, SameObjects}
use Rattle.lsa_region.specs.laws.Refs.{refs_decided}
use Rattle.lsa_shape.specs.Path.{entered_object}
use Rattle.lsa_shape.specs.declared.flank.Flank.{Flank}
use Rattle.lsa_shape.specs.Flanks.{other_flank, near_link, far_link, near_heavy, far_heavy}
use Rattle.lsa_shape.specs.Shapes.{TreeShape, IsIn, HangsAt, IsClearOf, node_on}
use Rattle.lsa_shape.specs.Ways.{ForkAt, plug, hole}
use Rattle.lsa_shape.specs.Levels.{HasBalance, IsLevel}
use Rattle.lsa_shape.specs.laws.Depths.{level-node, node-level, level-kept, around-kept, level-root}
use Rattle.lsa_shape.specs.laws.Hanging.{field-off}
use Rattle.lsa_shape.specs.laws.Places.{in-plug}
use Rattle.lsa_shape.specs.laws.Sides.{near-root, far-root, node-in, hangs-node, far-most, other-node}
use Rattle.lsa_tree.specs.Entries.{balance_in, balance_of}
use Rattle.lsa_tree.specs.calls.Placing.{IsEntryBody, IsFormed, IsTreeChanged, IsRebalanced, IsRotated, Steep, IsMended}
use Rattle.lsa_tree.proofs.Placed.{body-there, below-some, below-node, formed-in, formed-hole}
use Rattle.lsa_tree.proofs.Changed.{changed-then, changed-balance, rebalanced-others}
use Rattle.lsa_tree.proofs.Turned.{Asks, formed-balance, turn-asks, turned-formed, turned-changed}
use Rattle.lsa_tree.proofs.Mended.{heavy-set, light-set, heavy-light, steep-apart, near-x, near-p, between-x, between-p, far-x, far-p, near-between, between-far, around-not, whole-p, whole-x, whole-between, member-p, member-x, steep-x}

leans_twice : (flank : Flank) (lean h k low : ℕ) → lean ≡ far_heavy flank → HasBalance flank lean h k (suc (suc low)) → (h ≡ low) × (k ≡ suc low)
leans_twice flank lean h k low is (inl w) = absurd (light-set flank (sym is ∙ w.0))
leans_twice flank lean h k low is (inr (inl w)) = absurd (heavy-light flank (sym w.0 ∙ is))
leans_twice flank lean h k low is (inr (inr w)) = (omega (arith, w.1, w.2), omega (arith, w.2))

-- the balances that the other two have then
leans_apart : (flank : Flank) (lean h k low to_x to_p : ℕ) → HasBalance flank lean h k (suc low) → (lean ≡ far_heavy flank → to_x ≡ near_heavy flank) → (lean ≢ far_heavy flank → to_x ≡ 0) → (lean ≡ near_heavy flank → to_p ≡ far_heavy flank) → (lean ≢ near_heavy flank → to_p ≡ 0)
    → HasBalance flank to_x low h (suc low) × HasBalance flank to_p k low (suc low)
leans_apart flank lean h k low to_x to_p (inl w) x_light x_else p_heavy p_else =
    let even : k ≡ low = omega (arith, w.2) in
    (inl (x_else (λ e. light-set flank (sym e ∙ w.0)), sym (w.1 ∙ even), ap (λ n. suc n) (sym (w.1 ∙ even))), inl (p_else (λ e. heavy-set flank (sym e ∙ w.0)), even, refl))
leans_apart flank lean h k low to_x to_p (inr (inl w)) x_light x_else p_heavy p_else =
    let even : h ≡ low = omega (arith, w.2) in
    (inl (x_else (λ e. heavy-light flank (sym w.0 ∙ e)), sym even, ap (λ n. suc n) (sym even)), inr (inr (p_heavy w.0, sym even ∙ w.1, refl)))
leans_apart flank lean h k low to_x to_p (inr (inr w)) x_light x_else p_heavy p_else =
    let even : k ≡ low = omega (arith, w.2) in
    (inr (inl (x_light w.0, sym even ∙ w.1, refl)), inl (p_else (λ e. heavy-light flank (sym e ∙ w.0)), even, refl))

module _ (v : View) (well : IsWell v) (flank : Flank) (at : End) (p x : Ref) (s : Steep v flank at p x) (leans : balance_of v x ≡ far_heavy flank) where
  parts : (h : ℕ) × (k : ℕ) × IsLevel (balance_of v) s.near h × IsLevel (balance_of v) s.between k × HasBalance flank (balance_of v x) h k (suc (suc s.low))
  parts = level-node (balance_of v) flank s.near x s.between (suc (suc s.low)) s.level

  depths : (parts.0 ≡ s.low) × (parts.1 ≡ suc s.low)
  depths = leans_twice flank (balance_of v x) parts.0 parts.1 s.low leans parts.4

  between_level : IsLevel (balance_of v) s.between (suc s.low)
  between_level = subst (IsLevel (balance_of v) s.between) depths.1 parts.3

  near_level : IsLevel (balance_of v) s.near s.low
  near_level = subst (IsLevel (balance_of v) s.near) depths.0 parts.2

  between_hangs : HangsAt (link_of v) (Obj x (far_link flank)) s.between
  between_hangs =
      let outer = hangs-node (link_of v) flank (hole s.tree.top s.way) (node_on flank s.near x s.between) p s.far (formed-hole s.tree v s.refs well s.way (node_on flank (node_on flank s.near x s.between) p s.far) s.form).0 in
      (hangs-node (link_of v) flank (Obj p (near_link flank)) s.near x s.between outer.1).2

  pub twice-there : IsEnd v (Obj x (far_link flank)) × IsSome (entered_object 2 (link_of v (Obj x (far_link flank))))
  twice-there =
      let root = level-root (balance_of v) flank s.between s.low between_level in (
        body-there v x (far_link flank) (steep-x v well flank at p x s) (far-most flank),
        ap is_some (below-node (link_of v) (Obj x (far_link flank)) flank root.0 root.2 root.1 (subst (HangsAt (link_of v) (Obj x (far_link flank))) root.3 between_hangs)),
      )

  module _ (z : Ref) (child : entered_object 2 (link_of v (Obj x (far_link flank))) ≡ Some z) where
    root : (b : TreeShape) × (d : TreeShape) × (s.between ≡ node_on flank b z d)
    root = below-some (link_of v) (Obj x (far_link flank)) flank s.between z between_hangs child

    z_in : IsIn z s.between
    z_in = subst (IsIn z) (sym root.2) (node-in flank root.0 z root.1 z (inl refl))

    pub twice-z : IsEntryBody (body v z)
    twice-z = s.form.entries z (in-plug s.way (node_on flank (node_on flank s.near x s.between) p s.far) z (whole-between v well flank at p x s z z_in))

    member_z : Contains s.refs z
    member_z = formed-in s.tree v s.refs (plug s.way (node_on flank (node_on flank s.near x s.between) p s.far)) s.form z (in-plug s.way (node_on flank (node_on flank s.near x s.between) p s.far) z (whole-between v well flank at p x s z z_in))

    no_x : z ≢ x
    no_x = between-x v well flank at p x s z z_in

    no_p : z ≢ p
    no_p = between-p v well flank at p x s z z_in

    -- as the first rotation sees it, one place down and from the other side
    form_below : IsFormed s.tree v s.refs (plug (ForkAt flank p s.far ∷ s.way) (node_on (other_flank flank) (node_on (other_flank flank) root.1 z root.0) x s.near))
    form_below = subst (λ t. IsFormed s.tree v s.refs (plug (ForkAt flank p s.far ∷ s.way) t))
        (ap (λ t. node_on flank s.near x t) (root.2 ∙ sym (other-node flank root.0 z root.1)) ∙ sym (other-node flank s.near x (node_on (other_flank flank) root.1 z root.0))) s.form

    pub twice-first : Asks v (other_flank flank) (Obj p (near_link flank)) x z
    twice-first = turn-asks s.tree v s.refs well (ForkAt flank p s.far ∷ s.way) (other_flank flank) root.1 root.0 s.near z x form_below

    module _ (t : View) (turned : IsRotated (link_of v) (link_of t) (other_flank flank) (Obj p (near_link flank)) x z) (same : SameObjects v t) (well_t : IsWell t) where
      form_t : IsFormed s.tree t s.refs (plug s.way (node_on flank (node_on flank (node_on flank s.near x root.0) z root.1) p s.far))
      form_t = subst (λ u. IsFormed s.tree t s.refs (plug (ForkAt flank p s.far ∷ s.way) u))
          (other-node flank (node_on (other_flank flank) root.0 x s.near) z root.1 ∙ ap (λ u. node_on flank u z root.1) (other-node flank s.near x root.0))
          (turned-formed s.tree v s.refs well (ForkAt flank p s.far ∷ s.way) (other_flank flank) root.1 root.0 s.near z x form_below t turned same)

      changed_t : IsTreeChanged v t s.tree s.refs
      changed_t = turned-changed s.tree v s.refs well (ForkAt flank p s.far ∷ s.way) (other_flank flank) root.1 root.0 s.near z x form_below t turned same

      pub twice-second : Asks t flank at p z
      twice-second = subst (λ e. Asks t flank e p z) s.end (turn-asks s.tree t s.refs well_t s.way flank (node_on flank s.near x root.0) root.1 s.far z p form_t)

      module _ (u : View) (turned_u : IsRotated (link_of t) (link_of u) flank at p z) (same_u : SameObjects t u) (a b w : View) (to_x to_p : ℕ)
          (one : IsRebalanced u a x to_x) (two : IsRebalanced a b p to_p) (three : IsRebalanced b w z 0) where
        abbrev result : TreeShape
        result = node_on flank (node_on flank s.near x root.0) z (node_on flank root.1 p s.far)

        turned_here : IsRotated (link_of t) (link_of u) flank (hole s.tree.top s.way) p z
        turned_here = subst (λ e. IsRotated (link_of t) (link_of u) flank e p z) (sym s.end) turned_u

        form_u : IsFormed s.tree u s.refs (plug s.way result)
        form_u = turned-formed s.tree t s.refs well_t s.way flank (node_on flank s.near x root.0) root.1 s.far z p form_t u turned_here same_u

        form_w : IsFormed s.tree w s.refs (plug s.way result)
        form_w = formed-balance s.tree b w s.refs (plug s.way result) z 0 member_z three
            (formed-balance s.tree a b s.refs (plug s.way result) p to_p (member-p v well flank at p x s) two (formed-balance s.tree u a s.refs (plug s.way result) x to_x (member-x v well flank at p x s) one form_u))

        changed_w : IsTreeChanged v w s.tree s.refs
        changed_w =
            let tree = s.tree in let refs = s.refs in
            changed-then v b tree refs w (changed-then v a tree refs b (changed-then v u tree refs a (changed-then v t tree refs u changed_t
            (turned-changed tree t refs well_t s.way flank (node_on flank s.near x root.0) root.1 s.far z p form_t u turned_here same_u))
            (changed-balance u a tree refs x to_x (member-x v well flank at p x s) one)) (changed-balance a b tree refs p to_p (member-p v well flank at p x s) two)) (changed-balance b w tree refs z 0 member_z three)

        level_x : balance_of w x ≡ to_x
        level_x = rebalanced-others b w z 0 three x (λ e. no_x (sym e)) ∙ rebalanced-others a b p to_p two x (steep-apart v well flank at p x s) ∙ one.written

        level_p : balance_of w p ≡ to_p
        level_p = rebalanced-others b w z 0 three p (λ e. no_p (sym e)) ∙ two.written

        level_y : (y : Ref) → y ≢ x → y ≢ p → y ≢ z → balance_of w y ≡ balance_of v y
        level_y y not_x not_p not_z = rebalanced-others b w z 0 three y not_z ∙ rebalanced-others a b p to_p two y not_p ∙ rebalanced-others u a x to_x one y not_x ∙ ap balance_in (same_u.bodies y ∙ same.bodies y)

        in_low : (y : Ref) → IsIn y root.0 → IsIn y s.between
        in_low y i = subst (IsIn y) (sym root.2) (node-in flank root.0 z root.1 y (inr (inl i)))

        in_high : (y : Ref) → IsIn y root.1 → IsIn y s.between
        in_high y i = subst (IsIn y) (sym root.2) (node-in flank root.0 z root.1 y (inr (inr i)))

        between_clear : IsClearOf (Obj x (far_link flank)) (node_on flank root.0 z root.1)
        between_clear = subst (IsClearOf (Obj x (far_link flank))) root.2
            (λ y i. field-off x y (far_link flank) (λ e. between-x v well flank at p x s y i (sym e)))

        between_node : HangsAt (link_of v) (Obj x (far_link flank)) (node_on flank root.0 z root.1)
        between_node = subst (HangsAt (link_of v) (Obj x (far_link flank))) root.2 between_hangs

        low_z : (y : Ref) → IsIn y root.0 → y ≢ z
        low_z y i e = near-root (link_of v) well.paired flank (Obj x (far_link flank)) root.0 z root.1 between_node between_clear (subst (λ q. IsIn q root.0) e i)

        high_z : (y : Ref) → IsIn y root.1 → y ≢ z
        high_z y i e = far-root (link_of v) well.paired flank (Obj x (far_link flank)) root.0 z root.1 between_node between_clear (subst (λ q. IsIn q root.1) e i)

        pub twice-mended : (balance_of v z ≡ far_heavy flank → to_x ≡ near_heavy flank) → (balance_of v z ≢ far_heavy flank → to_x ≡ 0) → (balance_of v z ≡ near_heavy flank → to_p ≡ far_heavy flank) → (balance_of v z ≢ near_heavy flank → to_p ≡ 0)
            → IsMended v w flank at p x s false
        twice-mended x_light x_else p_heavy p_else =
            let mid = level-node (balance_of v) flank root.0 z root.1 (suc s.low) (subst (λ t. IsLevel (balance_of v) t (suc s.low)) root.2 between_level) in
            let apart = leans_apart flank (balance_of v z) mid.0 mid.1 s.low to_x to_p mid.4 x_light x_else p_heavy p_else in
            let on_near = level-kept (balance_of v) (balance_of w) s.near s.low (λ y i. level_y y (near-x v well flank at p x s y i) (near-p v well flank at p x s y i) (λ e. near-between v well flank at p x s y i (subst (λ q. IsIn q s.between) (sym e) z_in))) near_level in
            let on_low = level-kept (balance_of v) (balance_of w) root.0 mid.0 (λ y i. level_y y (between-x v well flank at p x s y (in_low y i)) (between-p v well flank at p x s y (in_low y i)) (low_z y i)) mid.2 in
            let on_high = level-kept (balance_of v) (balance_of w) root.1 mid.1 (λ y i. level_y y (between-x v well flank at p x s y (in_high y i)) (between-p v well flank at p x s y (in_high y i)) (high_z y i)) mid.3 in
            let on_far = level-kept (balance_of v) (balance_of w) s.far s.low (λ y i. level_y y (far-x v well flank at p x s y i) (far-p v well flank at p x s y i) (λ e. between-far v well flank at p x s z z_in (subst (λ q. IsIn q s.far) e i))) s.level_far in
            record {
              shape = result;
              here = suc (suc s.low);
              place = record {
                form = form_w;
                level = node-level (balance_of w) flank (node_on flank s.near x root.0) z (node_on flank root.1 p s.far) (suc s.low) (suc s.low) (suc (suc s.low))
                    (node-level (balance_of w) flank s.near x root.0 s.low mid.0 (suc s.low) on_near on_low (subst (λ n. HasBalance flank n s.low mid.0 (suc s.low)) (sym level_x) apart.0))
                    (node-level (balance_of w) flank root.1 p s.far mid.1 s.low (suc s.low) on_high on_far (subst (λ n. HasBalance flank n mid.1 s.low (suc s.low)) (sym level_p) apart.1))
                    (inl (three.written, refl, refl));
                around = around-kept (balance_of v) (balance_of w) s.way s.there s.depth
                    (λ y i. level_y y (around-not v well flank at p x s y x (whole-x v well flank at p x s) i) (around-not v well flank at p x s y p (whole-p v well flank at p x s) i) (around-not v well flank at p x s y z (whole-between v well flank at p x s z z_in) i)) s.around;
              };
              as_deep = λ e. absurd (let clash : false ≡ true = e in cc);
              less_deep = λ e. refl;
              even = λ e. absurd (let clash : false ≡ true = e in cc);
              changed = changed_w;
              level = λ set y zero_y. elim (refs_decided y z) [
                | inl is ↦ ap (balance_of w) is ∙ three.written
                | inr not_z ↦ elim (refs_decided y x) [
                  | inl is ↦ absurd (set (ap (balance_of v) (sym is) ∙ zero_y))
                  | inr not_x ↦ elim (refs_decided y p) [ inl is ↦ absurd (s.leans (ap (balance_of v) (sym is) ∙ zero_y)) | inr not_p ↦ level_y y not_x not_p not_z ∙ zero_y ]
                ]
              ];
            }
