-- Two ends that change places, and what a rotation does.
use Rattle.std.proofs.Common.{◌≡◌, ◌≢◌, ℕ, zero, suc, ◌≤◌, Option, Some, inl, inr, refl, sym, ap, ◌∙◌, subst, arith}
use Rattle.std.specs.Option.{option_map}
use Rattle.lsa_path.specs.Ref.{Ref}
use Rattle.lsa_path.specs.End.{End}
use Rattle.lsa_path.specs.End.TheVariants.{Obj}
use Rattle.lsa_path.specs.Ends.{swapped_end}
use Rattle.lsa_path.specs.Paired.{WellPaired, IsExchanged}
use Rattle.lsa_path.specs.Exchanges.{swap-second, swap-other, map_other, at_end, swap_twice, exchanged-well}
use Rattle.lsa_path.specs.laws.Paths.{same_field, same_object, same_some}
use Rattle.lsa_shape.specs.declared.flank.Flank.{Flank}
use Rattle.lsa_shape.specs.Flanks.{near_link, far_link}
use Rattle.lsa_shape.specs.Shapes.{TreeShape, IsIn, HangsAt, IsOff, IsClearOf, StaysBeyond, node_on}
use Rattle.lsa_shape.specs.laws.Hanging.{field-off, names-in, hangs-mapped, shape-same}
use Rattle.lsa_shape.specs.laws.Sides.{near-low, near-most, far-low, far-most, near_differs, node-in, hangs-node, node-hangs, near-root, near-clear, far-clear, sides-apart}

-- an end off an object is none of its links
pub off-link : (e : End) (z : Ref) (f : ℕ) → 2 ≤ f → f ≤ 4 → IsOff e z → e ≢ Obj z f
off-link e z zero low high off = absurd (omega (arith, low))
off-link e z (suc zero) low high off = absurd (omega (arith, low))
off-link e z (suc (suc zero)) low high off = off.0
off-link e z (suc (suc (suc zero))) low high off = off.1
off-link e z (suc (suc (suc (suc zero)))) low high off = off.2
off-link e z (suc (suc (suc (suc (suc f))))) low high off = absurd (omega (arith, high))

module _ (old new : End → Option End) (p q : End) (ex : IsExchanged old new p q) (differ : p ≢ q) where
  -- what hangs at an end hangs at the one that it is swapped for
  pub hangs-swapped : (a : End) (s : TreeShape) → IsClearOf p s → IsClearOf q s → HangsAt old a s → HangsAt new (swapped_end p q a) s
  hangs-swapped a s clear clear' h = subst (HangsAt new (swapped_end p q a)) (shape-same (λ z. z) s (λ z i. refl))
      (hangs-mapped old new (swapped_end p q) (λ z. z) a s
      (λ z i f low high. swap-other p q (Obj z f) (λ e. off-link p z f low high (clear z i) (sym e)) (λ e. off-link q z f low high (clear' z i) (sym e)))
      (moves a) (λ z i f low high. moves (Obj z f)) h)
    where
      moves : (e : End) → new (swapped_end p q e) ≡ option_map (swapped_end p q) (old e)
      moves e = at_end old new p q differ ex (swapped_end p q e) ∙ ap (λ d. option_map (swapped_end p q) (old d)) (swap_twice p q e differ)

  -- where neither of them hangs it stays
  pub hangs-beside : (a : End) (s : TreeShape) → a ≢ p → a ≢ q → IsClearOf p s → IsClearOf q s → HangsAt old a s → HangsAt new a s
  hangs-beside a s no_p no_q clear clear' h = subst (λ e. HangsAt new e s) (swap-other p q a no_p no_q) (hangs-swapped a s clear clear' h)

  -- and an end that neither names stays
  pub stays-beside : WellPaired old → (e : End) → e ≢ p → e ≢ q → old p ≢ Some e → old q ≢ Some e → new e ≡ old e
  stays-beside well e no_p no_q not_p not_q = ex.others e no_p no_q ∙ map_other p q (old e) (λ is. not_p (well.mates e p is)) (λ is. not_q (well.mates e q is))

-- the end at which a tree hangs changes places with the near link of its root y, and that with the far link of the object x there
module _ (old mid new : End → Option End) (well : WellPaired old) (flank : Flank) (a : End) (x y : Ref) (first : IsExchanged old mid a (Obj y (near_link flank))) (second : IsExchanged mid new (Obj y (near_link flank)) (Obj x (far_link flank))) where
  module _ (l m t : TreeShape) (h : HangsAt old a (node_on flank (node_on flank l x m) y t)) (clear : IsClearOf a (node_on flank (node_on flank l x m) y t)) where
    abbrev lower : TreeShape
    lower = node_on flank l x m

    abbrev whole : TreeShape
    whole = node_on flank lower y t

    abbrev q : End
    q = Obj y (near_link flank)

    abbrev s : End
    s = Obj x (far_link flank)

    top : (old a ≡ Some (Obj y 2)) × HangsAt old q lower × HangsAt old (Obj y (far_link flank)) t
    top = hangs-node old flank a lower y t h

    inner : (old q ≡ Some (Obj x 2)) × HangsAt old (Obj x (near_link flank)) l × HangsAt old s m
    inner = hangs-node old flank q l x m top.1

    clear_q : IsClearOf q lower
    clear_q = near-clear old well flank a lower y t h clear (near_link flank)

    y_in : IsIn y whole
    y_in = node-in flank lower y t y (inl refl)

    x_low : IsIn x lower
    x_low = node-in flank l x m x (inl refl)

    x_in : IsIn x whole
    x_in = node-in flank lower y t x (inr (inl x_low))

    differ : x ≢ y
    differ same = near-root old well flank a lower y t h clear (subst (λ z. IsIn z lower) same x_low)

    a_link : (z : Ref) (f : ℕ) → IsIn z whole → 2 ≤ f → f ≤ 4 → a ≢ Obj z f
    a_link z f i least most = off-link a z f least most (clear z i)

    no_q : a ≢ q
    no_q = a_link y (near_link flank) y_in (omega (arith, near-low flank)) (near-most flank)

    no_s : a ≢ s
    no_s = a_link x (far_link flank) x_in (omega (arith, far-low flank)) (far-most flank)

    q_s : q ≢ s
    q_s e = differ (sym (same_object y x (near_link flank) (far_link flank) e))

    part_a : (u : TreeShape) → ((z : Ref) → IsIn z u → IsIn z whole) → IsClearOf a u
    part_a u within z i = clear z (within z i)

    in_l : (z : Ref) → IsIn z l → IsIn z lower
    in_l z i = node-in flank l x m z (inr (inl i))

    in_m : (z : Ref) → IsIn z m → IsIn z lower
    in_m z i = node-in flank l x m z (inr (inr i))

    in_low : (z : Ref) → IsIn z lower → IsIn z whole
    in_low z i = node-in flank lower y t z (inr (inl i))

    in_t : (z : Ref) → IsIn z t → IsIn z whole
    in_t z i = node-in flank lower y t z (inr (inr i))

    -- x is none of the rest, so its links are none of theirs
    s_l : IsClearOf s l
    s_l = near-clear old well flank q l x m top.1 clear_q (far_link flank)

    s_m : IsClearOf s m
    s_m = far-clear old well flank q l x m top.1 clear_q (far_link flank)

    s_t : IsClearOf s t
    s_t z i = field-off x z (far_link flank) (λ same. sides-apart old well flank a lower y t h clear x x_low (subst (λ r. IsIn r t) (sym same) i))

    q_t : IsClearOf q t
    q_t = far-clear old well flank a lower y t h clear (near_link flank)

    q_part : (u : TreeShape) → ((z : Ref) → IsIn z u → IsIn z lower) → IsClearOf q u
    q_part u within z i = clear_q z (within z i)

    -- between the two the root hangs below itself
    mid_a : mid a ≡ Some (Obj x 2)
    mid_a = first.first ∙ ap (option_map (swapped_end a q)) inner.0 ∙ ap (λ e. Some e) (swap-other a q (Obj x 2) (λ e. a_link x 2 x_in (omega arith) (omega arith) (sym e)) (λ e. differ (same_object x y 2 (near_link flank) e)))

    y2_q : Obj y 2 ≢ q
    y2_q e = let w = near-low flank in let same = same_field y y 2 (near_link flank) e in omega (arith, w, same)

    mid_q : mid q ≡ Some (Obj y 2)
    mid_q = first.second ∙ ap (option_map (swapped_end a q)) top.0 ∙ ap (λ e. Some e) (swap-other a q (Obj y 2) (λ e. a_link y 2 y_in (omega arith) (omega arith) (sym e)) y2_q)

    s_differs : (z : Ref) (f : ℕ) → z ≢ x → Obj z f ≢ s
    s_differs z f ne e = ne (same_object z x f (far_link flank) e)

    new_a : new a ≡ Some (Obj x 2)
    new_a = second.others a no_q no_s ∙ ap (option_map (swapped_end q s)) mid_a
        ∙ ap (λ e. Some e) (swap-other q s (Obj x 2) (λ e. differ (same_object x y 2 (near_link flank) e)) (λ e. let w = far-low flank in let same = same_field x x 2 (far_link flank) e in omega (arith, w, same)))

    new_s : new s ≡ Some (Obj y 2)
    new_s = second.second ∙ ap (option_map (swapped_end q s)) mid_q ∙ ap (λ e. Some e) (swap-other q s (Obj y 2) y2_q (s_differs y 2 (λ e. differ (sym e))))

    -- what hung below them hangs where it did, but for the part between
    mid_part : (u : TreeShape) (e : End) → e ≢ a → e ≢ q → ((z : Ref) → IsIn z u → IsIn z whole) → IsClearOf q u → HangsAt old e u → HangsAt mid e u
    mid_part u e no_a no_q' within free k = hangs-beside old mid a q first no_q e u no_a no_q' (part_a u within) free k

    x_near : Obj x (near_link flank) ≢ q
    x_near e = differ (same_object x y (near_link flank) (near_link flank) e)

    y_far : Obj y (far_link flank) ≢ q
    y_far e = near_differs flank (sym (same_field y y (far_link flank) (near_link flank) e))

    new_l : HangsAt new (Obj x (near_link flank)) l
    new_l = hangs-beside mid new q s second q_s (Obj x (near_link flank)) l x_near (λ e. near_differs flank (same_field x x (near_link flank) (far_link flank) e)) (q_part l in_l) s_l
        (mid_part l (Obj x (near_link flank)) (λ e. a_link x (near_link flank) x_in (omega (arith, near-low flank)) (near-most flank) (sym e)) x_near (λ z i. in_low z (in_l z i)) (q_part l in_l) inner.1)

    new_t : HangsAt new (Obj y (far_link flank)) t
    new_t = hangs-beside mid new q s second q_s (Obj y (far_link flank)) t y_far (s_differs y (far_link flank) (λ e. differ (sym e))) q_t s_t
        (mid_part t (Obj y (far_link flank)) (λ e. a_link y (far_link flank) y_in (omega (arith, far-low flank)) (far-most flank) (sym e)) y_far in_t q_t top.2)

    new_m : HangsAt new q m
    new_m = subst (λ e. HangsAt new e m) (swap-second q s q_s) (hangs-swapped mid new q s second q_s s m (q_part m in_m) s_m
        (mid_part m s (λ e. no_s (sym e)) (λ e. q_s (sym e)) (λ z i. in_low z (in_m z i)) (q_part m in_m) inner.2))

    -- the tree is turned
    pub hangs-turned : HangsAt new a (node_on flank l x (node_on flank m y t))
    hangs-turned = node-hangs new flank a l x (node_on flank m y t) new_a new_l (node-hangs new flank s m y t new_s new_m new_t)

    -- and beyond it all stays
    pub turned-stays : StaysBeyond old new a (λ z. IsIn z whole)
    turned-stays e ne off =
        let out_q = λ (same : e ≡ q). off-link e y (near_link flank) (omega (arith, near-low flank)) (near-most flank) (off y y_in) same in
        let out_s = λ (same : e ≡ s). off-link e x (far_link flank) (omega (arith, far-low flank)) (far-most flank) (off x x_in) same in
        let mid_well = exchanged-well old mid a q no_q first well in
        stays-beside mid new q s second q_s mid_well e out_q out_s
        (λ is. (off y y_in).0 (same_some e (Obj y 2) (sym is ∙ mid_q)))
        (λ is. let w = names-in mid s m (mid_part m s (λ d. no_s (sym d)) (λ d. q_s (sym d)) (λ z i. in_low z (in_m z i)) (q_part m in_m) inner.2) e is in (off w.0 (in_low w.0 (in_m w.0 w.1))).0 w.2)
        ∙ stays-beside old mid a q first no_q well e ne out_q
        (λ is. (off y y_in).0 (same_some e (Obj y 2) (sym is ∙ top.0)))
        (λ is. (off x x_in).0 (same_some e (Obj x 2) (sym is ∙ inner.0)))
