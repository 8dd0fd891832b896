-- An entry that is deeper on a side by two is balanced.
use Rattle.std.proofs.Common.{◌≡◌, ◌≢◌, ℕ, suc, true, false, inl, inr, ◌⊎◌, refl, sym, ap, ◌∙◌, subst, arith}
use Rattle.std.specs.Prelude.{Contains}
use Rattle.lsa_region.specs.Ref.{Ref}
use Rattle.lsa_region.specs.declared.end.End.{End}
use Rattle.lsa_region.specs.declared.end.End.TheVariants.{Obj}
use Rattle.lsa_region.specs.Region.{View, body, link_of, IsWell, SameObjects}
use Rattle.lsa_region.specs.laws.Refs.{refs_decided}
use Rattle.lsa_shape.specs.declared.flank.Flank.{Flank}
use Rattle.lsa_shape.specs.declared.flank.Flank.TheVariants.{Low, High}
use Rattle.lsa_shape.specs.Flanks.{near_link, near_heavy, far_heavy}
use Rattle.lsa_shape.specs.Shapes.{TreeShape, IsIn, HangsAt, IsClearOf, node_on}
use Rattle.lsa_shape.specs.Ways.{plug, hole}
use Rattle.lsa_shape.specs.laws.Ways.{IsAround}
use Rattle.lsa_shape.specs.Levels.{HasBalance, IsLevel, IsLevelAround}
use Rattle.lsa_shape.specs.laws.Depths.{level-node, node-level, level-kept, around-kept}
use Rattle.lsa_shape.specs.laws.Places.{around-apart}
use Rattle.lsa_shape.specs.laws.Sides.{near-root, far-root, sides-apart, node-in, hangs-node, near-clear}
use Rattle.lsa_tree.specs.Entries.{balance_in, balance_of}
use Rattle.lsa_tree.specs.calls.Placing.{IsEntryBody, IsFormed, IsTreeChanged, IsRebalanced, IsRotated, Steep, IsMended}
use Rattle.lsa_tree.proofs.Placed.{formed-clear, formed-in, formed-hole}
use Rattle.lsa_tree.proofs.Changed.{changed-then, changed-balance, rebalanced-others}
use Rattle.lsa_tree.proofs.Turned.{Asks, formed-balance, turn-asks, turn-apart, turn-x, turn-y, turned-formed, turned-changed}

pub heavy-set : (flank : Flank) → near_heavy flank ≢ 0
heavy-set Low e = cc
heavy-set High e = cc

pub light-set : (flank : Flank) → far_heavy flank ≢ 0
light-set Low e = cc
light-set High e = cc

pub heavy-light : (flank : Flank) → near_heavy flank ≢ far_heavy flank
heavy-light Low e = cc
heavy-light High e = cc

-- what stands where x leans not to the other side
leans_once : (flank : Flank) (lean h k low : ℕ) → lean ≢ far_heavy flank → HasBalance flank lean h k (suc (suc low)) → ((lean ≡ 0) × (h ≡ suc low) × (k ≡ suc low)) ⊎ ((lean ≡ near_heavy flank) × (h ≡ suc low) × (k ≡ low))
leans_once flank lean h k low ne (inl w) = inl (w.0, omega (arith, w.1, w.2), omega (arith, w.2))
leans_once flank lean h k low ne (inr (inl w)) = inr (w.0, omega (arith, w.2), omega (arith, w.1, w.2))
leans_once flank lean h k low ne (inr (inr w)) = absurd (ne w.0)

-- the parts of a place that is steep, with none of p and x in them
module _ (v : View) (well : IsWell v) (flank : Flank) (at : End) (p x : Ref) (s : Steep v flank at p x) where
  abbrev inner : TreeShape
  inner = node_on flank s.near x s.between

  abbrev whole : TreeShape
  whole = node_on flank (node_on flank s.near x s.between) p s.far

  abbrev place : End
  place = hole s.tree.top s.way

  hangs : HangsAt (link_of v) place whole × IsClearOf place whole
  hangs = formed-hole s.tree v s.refs well s.way whole s.form

  below : HangsAt (link_of v) (Obj p (near_link flank)) inner
  below = (hangs-node (link_of v) flank place inner p s.far hangs.0).1

  below_clear : IsClearOf (Obj p (near_link flank)) inner
  below_clear = near-clear (link_of v) well.paired flank place inner p s.far hangs.0 hangs.1 (near_link flank)

  pub steep-apart : x ≢ p
  steep-apart = turn-apart s.tree v s.refs well s.way flank s.near s.between s.far x p s.form

  x_in : IsIn x inner
  x_in = node-in flank s.near x s.between x (inl refl)

  pub near-x : (z : Ref) → IsIn z s.near → z ≢ x
  near-x z i same = near-root (link_of v) well.paired flank (Obj p (near_link flank)) s.near x s.between below below_clear (subst (λ y. IsIn y s.near) same i)

  pub near-p : (z : Ref) → IsIn z s.near → z ≢ p
  near-p z i same = near-root (link_of v) well.paired flank place inner p s.far hangs.0 hangs.1 (subst (λ y. IsIn y inner) same (node-in flank s.near x s.between z (inr (inl i))))

  pub between-x : (z : Ref) → IsIn z s.between → z ≢ x
  between-x z i same = far-root (link_of v) well.paired flank (Obj p (near_link flank)) s.near x s.between below below_clear (subst (λ y. IsIn y s.between) same i)

  pub between-p : (z : Ref) → IsIn z s.between → z ≢ p
  between-p z i same = near-root (link_of v) well.paired flank place inner p s.far hangs.0 hangs.1 (subst (λ y. IsIn y inner) same (node-in flank s.near x s.between z (inr (inr i))))

  pub far-x : (z : Ref) → IsIn z s.far → z ≢ x
  far-x z i same = sides-apart (link_of v) well.paired flank place inner p s.far hangs.0 hangs.1 x x_in (subst (λ y. IsIn y s.far) same i)

  pub far-p : (z : Ref) → IsIn z s.far → z ≢ p
  far-p z i same = far-root (link_of v) well.paired flank place inner p s.far hangs.0 hangs.1 (subst (λ y. IsIn y s.far) same i)

  pub near-far : (z : Ref) → IsIn z s.near → IsIn z s.far → ⊥
  near-far z i j = sides-apart (link_of v) well.paired flank place inner p s.far hangs.0 hangs.1 z (node-in flank s.near x s.between z (inr (inl i))) j

  pub near-between : (z : Ref) → IsIn z s.near → IsIn z s.between → ⊥
  near-between = sides-apart (link_of v) well.paired flank (Obj p (near_link flank)) s.near x s.between below below_clear

  pub between-far : (z : Ref) → IsIn z s.between → IsIn z s.far → ⊥
  between-far z i j = sides-apart (link_of v) well.paired flank place inner p s.far hangs.0 hangs.1 z (node-in flank s.near x s.between z (inr (inr i))) j

  pub around-not : (z q : Ref) → IsIn q whole → IsAround z s.way → z ≢ q
  around-not z q i j same = around-apart (link_of v) well.paired s.tree.top s.way whole s.form.hangs (formed-clear s.tree v s.refs (plug s.way whole) s.form) q i (subst (λ y. IsAround y s.way) same j)

  pub whole-p : IsIn p whole
  whole-p = node-in flank inner p s.far p (inl refl)

  pub whole-x : IsIn x whole
  whole-x = node-in flank inner p s.far x (inr (inl x_in))

  pub whole-between : (z : Ref) → IsIn z s.between → IsIn z whole
  whole-between z i = node-in flank inner p s.far z (inr (inl (node-in flank s.near x s.between z (inr (inr i)))))

  pub member-p : Contains s.refs p
  member-p = formed-in s.tree v s.refs (plug s.way whole) s.form p (turn-y s.tree v s.refs well s.way flank s.near s.between s.far x p s.form)

  pub member-x : Contains s.refs x
  member-x = formed-in s.tree v s.refs (plug s.way whole) s.form x (turn-x s.tree v s.refs well s.way flank s.near s.between s.far x p s.form)

  pub steep-asks : Asks v flank at p x
  steep-asks = subst (λ e. Asks v flank e p x) s.end (turn-asks s.tree v s.refs well s.way flank s.near s.between s.far x p s.form)

  pub steep-x : IsEntryBody (body v x)
  steep-x = s.form.entries x (turn-x s.tree v s.refs well s.way flank s.near s.between s.far x p s.form)

  pub steep-p : IsEntryBody (body v p)
  steep-p = s.form.entries p (turn-y s.tree v s.refs well s.way flank s.near s.between s.far x p s.form)

  -- one rotation, and two balances written
  module _ (t u w : View) (turned : IsRotated (link_of v) (link_of t) flank at p x) (same : SameObjects v t) (to_x to_p : ℕ) (first : IsRebalanced t u x to_x) (second : IsRebalanced u w p to_p) where
    turned_here : IsRotated (link_of v) (link_of t) flank place p x
    turned_here = subst (λ e. IsRotated (link_of v) (link_of t) flank e p x) (sym s.end) turned

    form_t : IsFormed s.tree t s.refs (plug s.way (node_on flank s.near x (node_on flank s.between p s.far)))
    form_t = turned-formed s.tree v s.refs well s.way flank s.near s.between s.far x p s.form t turned_here same

    form_w : IsFormed s.tree w s.refs (plug s.way (node_on flank s.near x (node_on flank s.between p s.far)))
    form_w =
        let shape = plug s.way (node_on flank s.near x (node_on flank s.between p s.far)) in
        formed-balance s.tree u w s.refs shape p to_p member-p second (formed-balance s.tree t u s.refs shape x to_x member-x first form_t)

    changed_w : IsTreeChanged v w s.tree s.refs
    changed_w = changed-then v u s.tree s.refs w (changed-then v t s.tree s.refs u (turned-changed s.tree v s.refs well s.way flank s.near s.between s.far x p s.form t turned_here same) (changed-balance t u s.tree s.refs x to_x member-x first))
        (changed-balance u w s.tree s.refs p to_p member-p second)

    level_x : balance_of w x ≡ to_x
    level_x = rebalanced-others u w p to_p second x steep-apart ∙ first.written

    level_z : (z : Ref) → z ≢ x → z ≢ p → balance_of w z ≡ balance_of v z
    level_z z no_x no_p = rebalanced-others u w p to_p second z no_p ∙ rebalanced-others t u x to_x first z no_x ∙ ap balance_in (same.bodies z)

    around_w : IsLevelAround (balance_of w) s.way s.there s.depth
    around_w = around-kept (balance_of v) (balance_of w) s.way s.there s.depth (λ z i. level_z z (around-not z x whole-x i) (around-not z p whole-p i)) s.around

    parts : (h : ℕ) × (k : ℕ) × IsLevel (balance_of v) s.near h × IsLevel (balance_of v) s.between k × HasBalance flank (balance_of v x) h k (suc (suc s.low))
    parts = level-node (balance_of v) flank s.near x s.between (suc (suc s.low)) s.level

    put : (h k m n : ℕ) → IsLevel (balance_of v) s.near h → IsLevel (balance_of v) s.between k → HasBalance flank to_p k s.low m → HasBalance flank to_x h m n → IsLevel (balance_of w) (node_on flank s.near x (node_on flank s.between p s.far)) n
    put h k m n near between leans_p leans_x =
        node-level (balance_of w) flank s.near x (node_on flank s.between p s.far) h m n
        (level-kept (balance_of v) (balance_of w) s.near h (λ z i. level_z z (near-x z i) (near-p z i)) near)
        (node-level (balance_of w) flank s.between p s.far k s.low m
        (level-kept (balance_of v) (balance_of w) s.between k (λ z i. level_z z (between-x z i) (between-p z i)) between)
        (level-kept (balance_of v) (balance_of w) s.far s.low (λ z i. level_z z (far-x z i) (far-p z i)) s.level_far)
        (subst (λ b. HasBalance flank b k s.low m) (sym second.written) leans_p))
        (subst (λ b. HasBalance flank b h m n) (sym level_x) leans_x)

    pub once-level : balance_of v x ≡ 0 → to_x ≡ far_heavy flank → to_p ≡ near_heavy flank → IsMended v w flank at p x s true
    once-level zero_x is_x is_p = elim (leans_once flank (balance_of v x) parts.0 parts.1 s.low (λ e. light-set flank (sym e ∙ zero_x)) parts.4) [
      | inl l ↦ record {
        shape = node_on flank s.near x (node_on flank s.between p s.far);
        here = suc (suc (suc s.low));
        place = record {
          form = form_w;
          level = put parts.0 parts.1 (suc (suc s.low)) (suc (suc (suc s.low))) parts.2 parts.3 (inr (inl (is_p, l.2, ap (λ n. suc n) (sym l.2)))) (inr (inr (is_x, ap (λ n. suc n) (sym l.1), refl)));
          around = around_w;
        };
        as_deep = λ e. refl;
        less_deep = λ e. absurd (let clash : true ≡ false = e in cc);
        even = λ e. zero_x;
        changed = changed_w;
        level = λ set z zero_z. absurd (set zero_x);
      }
      | inr l ↦ absurd (heavy-set flank (sym l.0 ∙ zero_x))
    ]

    pub once-heavy : balance_of v x ≢ 0 → balance_of v x ≢ far_heavy flank → to_x ≡ 0 → to_p ≡ 0 → IsMended v w flank at p x s false
    once-heavy set_x ne is_x is_p = elim (leans_once flank (balance_of v x) parts.0 parts.1 s.low ne parts.4) [
      | inl l ↦ absurd (set_x l.0)
      | inr l ↦ record {
        shape = node_on flank s.near x (node_on flank s.between p s.far);
        here = suc (suc s.low);
        place = record {
          form = form_w;
          level = put parts.0 parts.1 (suc s.low) (suc (suc s.low)) parts.2 parts.3 (inl (is_p, l.2, refl)) (inl (is_x, l.1, refl));
          around = around_w;
        };
        as_deep = λ e. absurd (let clash : false ≡ true = e in cc);
        less_deep = λ e. refl;
        even = λ e. absurd (let clash : false ≡ true = e in cc);
        changed = changed_w;
        level = λ set z zero_z. elim (refs_decided z x) [
          | inl is ↦ ap (balance_of w) is ∙ level_x ∙ is_x
          | inr no_x ↦ elim (refs_decided z p) [ inl is ↦ ap (balance_of w) is ∙ second.written ∙ is_p | inr no_p ↦ level_z z no_x no_p ∙ zero_z ]
        ];
      }
    ]
