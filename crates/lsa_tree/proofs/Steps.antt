-- One step up from a place whose depth changed.
use Rattle.std.proofs.Common.{◌≡◌, ◌≢◌, ℕ, suc, true, false, List, ◌∷◌, length, Option, Some, None, IsSome, is_some, inl, inr, refl, sym, ap, ◌∙◌, subst, arith}
use Rattle.std.specs.Prelude.{Contains}
use Rattle.lsa_region.specs.Ref.{Ref}
use Rattle.lsa_region.specs.declared.end.End.{End}
use Rattle.lsa_region.specs.declared.end.End.TheVariants.{Obj}
use Rattle.lsa_region.specs.Region.{View, body, link_of, IsEnd, IsWell}
use Rattle.lsa_shape.specs.Path.{entered_object}
use Rattle.lsa_shape.specs.declared.flank.Flank.{Flank}
use Rattle.lsa_shape.specs.declared.flank.Flank.TheVariants.{Low, High}
use Rattle.lsa_shape.specs.Flanks.{other_flank, far_link, near_heavy, far_heavy}
use Rattle.lsa_shape.specs.Shapes.{TreeShape, Node, inorder, IsIn, HangsAt, IsClearOf, node_on}
use Rattle.lsa_shape.specs.Ways.{Fork, ForkAt, plug, hole}
use Rattle.lsa_shape.specs.laws.Ways.{IsAround}
use Rattle.lsa_shape.specs.Levels.{HasBalance, IsLevel, IsLevelAround}
use Rattle.lsa_shape.specs.laws.Depths.{level-plug, node-level, level-kept, around-kept, level-root}
use Rattle.lsa_shape.specs.laws.Places.{in-plug, plug-in, around-apart}
use Rattle.lsa_shape.specs.laws.Sides.{near-root, far-root, node-in, hangs-node, far-most, other-node}
use Rattle.lsa_tree.specs.Entries.{balance_of}
use Rattle.lsa_tree.specs.calls.Placing.{IsEntryBody, IsFormed, PlaceIn, IsTreeChanged, IsRebalanced, Steep, IsMended, IsTipped, IsStepped, owner_of}
use Rattle.lsa_tree.proofs.Placed.{body-there, below-some, below-node, owner-none, owner-some, formed-clear, formed-in, formed-there, formed-hole}
use Rattle.lsa_tree.proofs.Changed.{changed-same, changed-balance, rebalanced-others}
use Rattle.lsa_tree.proofs.Turned.{formed-balance, same-members}
use Rattle.lsa_tree.proofs.Mended.{heavy-set, light-set, heavy-light}

none_some : (e : End) → ◌≡◌ {A = Option End} None (Some e) → ⊥
none_some e is = cc

some_none : (e : End) → ◌≡◌ {A = Option End} (Some e) None → ⊥
some_none e is = cc

-- the root of a node is one
node_root : (flank : Flank) (near : TreeShape) (q : Ref) (far : TreeShape) (l : TreeShape) (r : Ref) (t : TreeShape) → node_on flank near q far ≡ Node l r t → q ≡ r
node_root Low near q far l r t e = cc
node_root High near q far l r t e = cc

module _ (v : View) (well : IsWell v) (at : End) (p : PlaceIn v at) where
  -- the place is the top
  pub stepped-top : owner_of at ≡ None → IsStepped v v at p None
  stepped-top none = let top = owner-none v p.tree.top at p.is.form.top p.way p.end none in record {
    changed = changed-same v p.tree p.refs;
    done = λ e. (p.shape, p.here, record { form = subst (λ w. IsFormed p.tree v p.refs (plug w p.shape)) top p.is.form; level = p.is.level });
    on = λ e is. absurd (none_some e is);
    level = λ grown leaning z i zero_z. zero_z;
  }

  module _ (flank : Flank) (q : Ref) (some : owner_of at ≡ Some (flank, q)) where
    pub fork : (beside : TreeShape) × (rest : List Fork) × (p.way ≡ ForkAt flank q beside ∷ rest)
    fork = owner-some v p.tree.top at p.is.form.top p.way flank q p.end some

    abbrev node : TreeShape
    node = node_on flank p.shape q fork.0

    pub form : IsFormed p.tree v p.refs (plug fork.1 (node_on flank p.shape q fork.0))
    form = subst (λ w. IsFormed p.tree v p.refs (plug w p.shape)) fork.2 p.is.form

    pub around : (far : ℕ) × (above : ℕ) × IsLevel (balance_of v) fork.0 far × HasBalance flank (balance_of v q) p.there far above × IsLevelAround (balance_of v) fork.1 above p.depth
    around = subst (λ w. IsLevelAround (balance_of v) w p.there p.depth) fork.2 p.is.around

    hangs : HangsAt (link_of v) (hole p.tree.top fork.1) (node_on flank p.shape q fork.0) × IsClearOf (hole p.tree.top fork.1) (node_on flank p.shape q fork.0)
    hangs = formed-hole p.tree v p.refs well fork.1 (node_on flank p.shape q fork.0) form

    root_in : IsIn q (node_on flank p.shape q fork.0)
    root_in = node-in flank p.shape q fork.0 q (inl refl)

    pub owner-body : IsEntryBody (body v q)
    owner-body = form.entries q (in-plug fork.1 (node_on flank p.shape q fork.0) q root_in)

    door_is : link_of v (Obj q 2) ≡ Some (hole p.tree.top fork.1)
    door_is = well.paired.mates (hole p.tree.top fork.1) (Obj q 2) (hangs-node (link_of v) flank (hole p.tree.top fork.1) p.shape q fork.0 hangs.0).0

    pub owner-door : IsEnd v (Obj q 2) × IsSome (link_of v (Obj q 2))
    owner-door = (body-there v q 2 owner-body (omega arith), ap is_some door_is)

    member : Contains p.refs q
    member = formed-in p.tree v p.refs (plug fork.1 (node_on flank p.shape q fork.0)) form q (in-plug fork.1 (node_on flank p.shape q fork.0) q root_in)

    long : suc (length fork.1) ≡ length p.way
    long = sym (ap length fork.2)

    near_not : (z : Ref) → IsIn z p.shape → z ≢ q
    near_not z i same = near-root (link_of v) well.paired flank (hole p.tree.top fork.1) p.shape q fork.0 hangs.0 hangs.1 (subst (λ x. IsIn x p.shape) same i)

    far_not : (z : Ref) → IsIn z fork.0 → z ≢ q
    far_not z i same = far-root (link_of v) well.paired flank (hole p.tree.top fork.1) p.shape q fork.0 hangs.0 hangs.1 (subst (λ x. IsIn x fork.0) same i)

    around_not : (z : Ref) → IsAround z fork.1 → z ≢ q
    around_not z i same = around-apart (link_of v) well.paired p.tree.top fork.1 (node_on flank p.shape q fork.0) form.hangs (formed-clear p.tree v p.refs (plug fork.1 (node_on flank p.shape q fork.0)) form) q root_in (subst (λ x. IsAround x fork.1) same i)

    module _ (end : End) (door : link_of v (Obj q 2) ≡ Some end) where
      pub end_is : hole p.tree.top fork.1 ≡ end
      end_is = let both : ◌≡◌ {A = Option End} (Some (hole p.tree.top fork.1)) (Some end) = sym door_is ∙ door in cc

      -- its balance is written
      module _ (w : View) (value : ℕ) (written : IsRebalanced v w q value) where
        form_w : IsFormed p.tree w p.refs (plug fork.1 (node_on flank p.shape q fork.0))
        form_w = formed-balance p.tree v w p.refs (plug fork.1 (node_on flank p.shape q fork.0)) q value member written form

        changed_w : IsTreeChanged v w p.tree p.refs
        changed_w = changed-balance v w p.tree p.refs q value member written

        level_z : (z : Ref) → z ≢ q → balance_of w z ≡ balance_of v z
        level_z = rebalanced-others v w q value written

        level_node : (n : ℕ) → HasBalance flank value p.here around.0 n → IsLevel (balance_of w) (node_on flank p.shape q fork.0) n
        level_node n leans = node-level (balance_of w) flank p.shape q fork.0 p.here around.0 n
            (level-kept (balance_of v) (balance_of w) p.shape p.here (λ z i. level_z z (near_not z i)) p.is.level) (level-kept (balance_of v) (balance_of w) fork.0 around.0 (λ z i. level_z z (far_not z i)) around.2)
            (subst (λ b. HasBalance flank b p.here around.0 n) (sym written.written) leans)

        around_w : IsLevelAround (balance_of w) fork.1 around.1 p.depth
        around_w = around-kept (balance_of v) (balance_of w) fork.1 around.1 p.depth (λ z i. level_z z (around_not z i)) around.4

        -- and the tree is balanced
        stepped_done : HasBalance flank value p.here around.0 around.1 → IsStepped v w at p None
        stepped_done leans = record {
          changed = changed_w;
          done = λ e. (plug fork.1 (node_on flank p.shape q fork.0), p.depth, record { form = form_w; level = level-plug (balance_of w) fork.1 (node_on flank p.shape q fork.0) around.1 p.depth (level_node around.1 leans) around_w });
          on = λ e is. absurd (none_some e is);
          level = λ grown leaning z i zero_z. level_z z (near_not z i) ∙ zero_z;
        }

        -- or the place above is as this one was
        stepped_on : (n : ℕ) → HasBalance flank value p.here around.0 n → (p.here ≡ suc p.there → n ≡ suc around.1) → (p.there ≡ suc p.here → around.1 ≡ suc n) → (p.here ≡ suc p.there → value ≢ 0) → IsStepped v w at p (Some end)
        stepped_on n leans up down set = record {
          changed = changed_w;
          done = λ e. absurd (some_none end e);
          on = λ e is. (
            fork.1,
            node_on flank p.shape q fork.0,
            n,
            around.1,
            record { form = form_w; level = level_node n leans; around = around_w },
            end_is ∙ (let same : end ≡ e = cc in same),
            long,
            (up, down),
            (λ z i. node-in flank p.shape q fork.0 z (inr (inl i))),
            λ grown leaning. inr (λ l r t is_node zero_r. set grown (sym written.written ∙ ap (balance_of w) (node_root flank p.shape q fork.0 l r t is_node) ∙ zero_r)),
          );
          level = λ grown leaning z i zero_z. level_z z (near_not z i) ∙ zero_z;
        }

        -- what hangs there has risen
        pub rise-level : p.here ≡ suc p.there → balance_of v q ≡ 0 → value ≡ near_heavy flank → IsStepped v w at p (Some end)
        rise-level grown zero_q is = go around.3
          where
            go : HasBalance flank (balance_of v q) p.there around.0 around.1 → IsStepped v w at p (Some end)
            go (inl l) = stepped_on (suc p.here) (inr (inl (is, grown ∙ ap (λ n. suc n) l.1, refl))) (λ e. omega (arith, grown, l.1, l.2)) (λ e. absurd (omega (arith, grown, e))) (λ g e. heavy-set flank (sym is ∙ e))
            go (inr (inl l)) = absurd (heavy-set flank (sym l.0 ∙ zero_q))
            go (inr (inr l)) = absurd (light-set flank (sym l.0 ∙ zero_q))

        pub rise-light : p.here ≡ suc p.there → balance_of v q ≡ far_heavy flank → balance_of v q ≢ 0 → value ≡ 0 → IsStepped v w at p None
        rise-light grown light_q set is = go around.3
          where
            go : HasBalance flank (balance_of v q) p.there around.0 around.1 → IsStepped v w at p None
            go (inl l) = absurd (set l.0)
            go (inr (inl l)) = absurd (heavy-light flank (sym l.0 ∙ light_q))
            go (inr (inr l)) = stepped_done (inl (is, grown ∙ sym l.1, l.2))

        -- it has sunk
        pub sink-heavy : p.there ≡ suc p.here → balance_of v q ≡ near_heavy flank → value ≡ 0 → IsStepped v w at p (Some end)
        sink-heavy sunk heavy_q is = go around.3
          where
            go : HasBalance flank (balance_of v q) p.there around.0 around.1 → IsStepped v w at p (Some end)
            go (inl l) = absurd (heavy-set flank (sym heavy_q ∙ l.0))
            go (inr (inl l)) = stepped_on (suc around.0) (inl (is, omega (arith, sunk, l.1), refl)) (λ e. absurd (omega (arith, sunk, e))) (λ e. omega (arith, l.1, l.2)) (λ g. absurd (omega (arith, sunk, g)))
            go (inr (inr l)) = absurd (heavy-light flank (sym heavy_q ∙ l.0))

        pub sink-level : p.there ≡ suc p.here → balance_of v q ≡ 0 → value ≡ far_heavy flank → IsStepped v w at p None
        sink-level sunk zero_q is = go around.3
          where
            go : HasBalance flank (balance_of v q) p.there around.0 around.1 → IsStepped v w at p None
            go (inl l) = stepped_done (inr (inr (is, sym l.1 ∙ sunk, l.2)))
            go (inr (inl l)) = absurd (heavy-set flank (sym l.0 ∙ zero_q))
            go (inr (inr l)) = absurd (light-set flank (sym l.0 ∙ zero_q))

      -- ---- two rotations at most

      in_place : (w : View) (shape : TreeShape) → inorder (plug fork.1 shape) ≡ p.refs → (z : Ref) → IsIn z p.shape → IsIn z shape
      in_place w shape order z i =
          let in_whole = in-plug fork.1 (node_on flank p.shape q fork.0) z (node-in flank p.shape q fork.0 z (inr (inl i))) in
          elim (plug-in fork.1 shape z (same-members (plug fork.1 (node_on flank p.shape q fork.0)) (plug fork.1 shape) (form.order ∙ sym order) z in_whole)) [
            | inl here ↦ here
            | inr there ↦ absurd (around-apart (link_of v) well.paired p.tree.top fork.1 (node_on flank p.shape q fork.0) form.hangs (formed-clear p.tree v p.refs (plug fork.1 (node_on flank p.shape q fork.0)) form) z (node-in flank p.shape q fork.0 z (inr (inl i))) there)
          ]

      -- what hangs there has risen where it was deeper already
      module _ (grown : p.here ≡ suc p.there) (set : balance_of v q ≢ 0) (not_light : balance_of v q ≢ far_heavy flank) where
        heavy : (p.there ≡ suc around.0) × (around.1 ≡ suc p.there)
        heavy = go around.3
          where
            go : HasBalance flank (balance_of v q) p.there around.0 around.1 → (p.there ≡ suc around.0) × (around.1 ≡ suc p.there)
            go (inl l) = absurd (set l.0)
            go (inr (inl l)) = (l.1, l.2)
            go (inr (inr l)) = absurd (not_light l.0)

        pub deep : p.here ≡ suc (suc around.0)
        deep = grown ∙ ap (λ n. suc n) heavy.0

        hangs_here : HangsAt (link_of v) at p.shape
        hangs_here = subst (λ e. HangsAt (link_of v) e p.shape) p.end (formed-hole p.tree v p.refs well p.way p.shape p.is.form).0

        pub rise-child : IsEnd v at × IsSome (entered_object 2 (link_of v at))
        rise-child =
            let root = level-root (balance_of v) flank p.shape (suc around.0) (subst (IsLevel (balance_of v) p.shape) deep p.is.level) in
            (subst (IsEnd v) p.end (formed-there p.tree v p.refs p.way p.shape p.is.form), ap is_some (below-node (link_of v) at flank root.0 root.2 root.1 (subst (HangsAt (link_of v) at) root.3 hangs_here)))

        module _ (x : Ref) (child : entered_object 2 (link_of v at) ≡ Some x) where
          pub root_of : (near : TreeShape) × (far : TreeShape) × (p.shape ≡ node_on flank near x far)
          root_of = below-some (link_of v) at flank p.shape x hangs_here child

          abbrev pub rise-steep : Steep v flank end q x
          rise-steep = record {
            tree = p.tree;
            refs = p.refs;
            way = fork.1;
            there = around.1;
            depth = p.depth;
            near = root_of.0;
            between = root_of.1;
            far = fork.0;
            low = around.0;
            form = subst (λ s. IsFormed p.tree v p.refs (plug fork.1 (node_on flank s q fork.0))) root_of.2 form;
            end = end_is;
            around = around.4;
            level = subst (λ s. IsLevel (balance_of v) s (suc (suc around.0))) root_of.2 (subst (IsLevel (balance_of v) p.shape) deep p.is.level);
            level_far = around.2;
            leans = set;
          }

          sided : (f : Flank) (a : TreeShape) (b : TreeShape) → (l : TreeShape) × (t : TreeShape) × (node_on f a x b ≡ Node l x t)
          sided Low a b = (a, b, refl)
          sided High a b = (b, a, refl)

          child_set : IsTipped v p.shape p.here → balance_of v x ≢ 0
          child_set (inl one) zero_x = omega (arith, one, deep)
          child_set (inr all) zero_x = let w = sided flank root_of.0 root_of.1 in all w.0 x w.1 (root_of.2 ∙ w.2) zero_x

          pub rise-mended : (w : View) → IsMended v w flank end q x rise-steep false → IsStepped v w at p None
          rise-mended w m = record {
            changed = m.changed;
            done = λ e. (
              plug fork.1 m.shape,
              p.depth,
              record {
                form = m.place.form;
                level = level-plug (balance_of w) fork.1 m.shape around.1 p.depth (subst (IsLevel (balance_of w) m.shape) (m.less_deep refl ∙ sym (heavy.1 ∙ ap (λ n. suc n) heavy.0)) m.place.level) m.place.around;
              },
            );
            on = λ e is. absurd (none_some e is);
            level = λ g leaning z i zero_z. m.level (child_set leaning) z zero_z;
          }

          pub rise-raised : (w : View) → IsMended v w flank end q x rise-steep true → IsStepped v w at p (Some end)
          rise-raised w m = record {
            changed = m.changed;
            done = λ e. absurd (some_none end e);
            on = λ e is. (
              fork.1,
              m.shape,
              m.here,
              around.1,
              m.place,
              end_is ∙ (let same : end ≡ e = cc in same),
              long,
              ((λ g. m.as_deep refl ∙ ap (λ n. suc n) (sym (heavy.1 ∙ ap (λ n. suc n) heavy.0))), λ s. absurd (omega (arith, grown, s))),
              in_place w m.shape m.place.form.order,
              λ g leaning. absurd (child_set leaning (m.even refl)),
            );
            level = λ g leaning z i zero_z. m.level (child_set leaning) z zero_z;
          }

      -- what hangs there has sunk where it was less deep already
      module _ (sunk : p.there ≡ suc p.here) (set : balance_of v q ≢ 0) (not_heavy : balance_of v q ≢ near_heavy flank) (other : Flank) (is_other : other ≡ other_flank flank) where
        light : (around.0 ≡ suc p.there) × (around.1 ≡ suc around.0)
        light = go around.3
          where
            go : HasBalance flank (balance_of v q) p.there around.0 around.1 → (around.0 ≡ suc p.there) × (around.1 ≡ suc around.0)
            go (inl l) = absurd (set l.0)
            go (inr (inl l)) = absurd (not_heavy l.0)
            go (inr (inr l)) = (l.1, l.2)

        pub deeper : around.0 ≡ suc (suc p.here)
        deeper = light.0 ∙ ap (λ n. suc n) sunk

        beside_hangs : HangsAt (link_of v) (Obj q (far_link flank)) fork.0
        beside_hangs = (hangs-node (link_of v) flank (hole p.tree.top fork.1) p.shape q fork.0 hangs.0).2

        pub sink-child : IsEnd v (Obj q (far_link flank)) × IsSome (entered_object 2 (link_of v (Obj q (far_link flank))))
        sink-child =
            let root = level-root (balance_of v) flank fork.0 (suc p.here) (subst (IsLevel (balance_of v) fork.0) deeper around.2) in
            (body-there v q (far_link flank) owner-body (far-most flank), ap is_some (below-node (link_of v) (Obj q (far_link flank)) flank root.0 root.2 root.1 (subst (HangsAt (link_of v) (Obj q (far_link flank))) root.3 beside_hangs)))

        module _ (x : Ref) (child : entered_object 2 (link_of v (Obj q (far_link flank))) ≡ Some x) where
          pub beside_root : (near : TreeShape) × (far : TreeShape) × (fork.0 ≡ node_on other near x far)
          beside_root = below-some (link_of v) (Obj q (far_link flank)) other fork.0 x beside_hangs child

          pub turned_node : node_on flank p.shape q fork.0 ≡ node_on other (node_on other beside_root.0 x beside_root.1) q p.shape
          turned_node = sym (other-node flank p.shape q fork.0) ∙ ap (λ f. node_on f fork.0 q p.shape) (sym is_other) ∙ ap (λ s. node_on other s q p.shape) beside_root.2

          abbrev pub sink-steep : Steep v other end q x
          sink-steep = record {
            tree = p.tree;
            refs = p.refs;
            way = fork.1;
            there = around.1;
            depth = p.depth;
            near = beside_root.0;
            between = beside_root.1;
            far = p.shape;
            low = p.here;
            form = subst (λ s. IsFormed p.tree v p.refs (plug fork.1 s)) turned_node form;
            end = end_is;
            around = around.4;
            level = subst (λ s. IsLevel (balance_of v) s (suc (suc p.here))) beside_root.2 (subst (IsLevel (balance_of v) fork.0) deeper around.2);
            level_far = p.is.level;
            leans = set;
          }

          pub sink-mended : (w : View) → IsMended v w other end q x sink-steep true → IsStepped v w at p None
          sink-mended w m = record {
            changed = m.changed;
            done = λ e. (
              plug fork.1 m.shape,
              p.depth,
              record {
                form = m.place.form;
                level = level-plug (balance_of w) fork.1 m.shape around.1 p.depth (subst (IsLevel (balance_of w) m.shape) (m.as_deep refl ∙ sym (light.1 ∙ ap (λ n. suc n) deeper)) m.place.level) m.place.around;
              },
            );
            on = λ e is. absurd (none_some e is);
            level = λ g. absurd (omega (arith, sunk, g));
          }

          pub sink-lowered : (w : View) → IsMended v w other end q x sink-steep false → IsStepped v w at p (Some end)
          sink-lowered w m = record {
            changed = m.changed;
            done = λ e. absurd (some_none end e);
            on = λ e is. (
              fork.1,
              m.shape,
              m.here,
              around.1,
              m.place,
              end_is ∙ (let same : end ≡ e = cc in same),
              long,
              ((λ g. absurd (omega (arith, sunk, g))), λ s. light.1 ∙ ap (λ n. suc n) (deeper ∙ sym (m.less_deep refl))),
              in_place w m.shape m.place.form.order,
              λ g. absurd (omega (arith, sunk, g)),
            );
            level = λ g. absurd (omega (arith, sunk, g));
          }
