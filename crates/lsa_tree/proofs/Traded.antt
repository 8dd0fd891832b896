-- Two entries that change places.
use Rattle.std.proofs.Common.{◌≡◌, ◌≢◌, ℕ, zero, suc, ◌≤◌, [], ◌∷◌, Option, Some, None, inl, inr, refl, sym, ap, ◌∙◌, subst, arith}
use Rattle.std.specs.Option.{option_map}
use Rattle.std.specs.Prelude.{Contains}
use Rattle.lsa_region.specs.Ref.{Ref}
use Rattle.lsa_region.specs.declared.end.End.{End}
use Rattle.lsa_region.specs.declared.end.End.TheVariants.{Obj}
use Rattle.lsa_region.specs.Ends.{swapped_end}
use Rattle.lsa_region.specs.calls.Ends.{swapped_ref}
use Rattle.lsa_region.specs.Paired.{IsExchanged}
use Rattle.lsa_region.specs.Region.{View, link_of, SameObjects}
use Rattle.lsa_region.specs.laws.Exchanges.{swap-first, swap-second, swap-other, at_end, swap_twice}
use Rattle.lsa_region.specs.laws.Refs.{refs_decided, swap-here, swap-there, swap-else}
use Rattle.lsa_shape.specs.Members.{member-cases, member-first, member-later}
use Rattle.lsa_shape.specs.Paths.{same_field, same_object}
use Rattle.lsa_shape.specs.declared.flank.Flank.{Flank}
use Rattle.lsa_shape.specs.Flanks.{near_link, far_link}
use Rattle.lsa_tree.specs.Entries.{balance_in, balance_of}
use Rattle.lsa_tree.specs.calls.Placing.{IsRebalanced, IsTraded, IsRotated, traded_end}
use Rattle.lsa_tree.specs.laws.Trees.{same-objects}
use Rattle.lsa_tree.proofs.Changed.{balances-then, balances-wider, rebalanced-others}

pub moves : (old new : End → Option End) (a b : End) → a ≢ b → IsExchanged old new a b → (e : End) → new (swapped_end a b e) ≡ option_map (swapped_end a b) (old e)
moves old new a b differ ex e = at_end old new a b differ ex (swapped_end a b e) ∙ ap (λ d. option_map (swapped_end a b) (old d)) (swap_twice a b e differ)

twice : (f g : End → End) (x : Option End) → option_map g (option_map f x) ≡ option_map (λ e. g (f e)) x
twice f g None = refl
twice f g (Some e) = refl

module _ (r q : Ref) (ne : r ≢ q) where
  ends_differ : (f : ℕ) → Obj r f ≢ Obj q f
  ends_differ f e = ne (same_object r q f f e)

  swapped_field : (f : ℕ) (x : Ref) → swapped_end (Obj r f) (Obj q f) (Obj x f) ≡ Obj (swapped_ref r q x) f
  swapped_field f x = elim (refs_decided x r) [
    | inl same ↦ ap (λ y. swapped_end (Obj r f) (Obj q f) (Obj y f)) same ∙ swap-first (Obj r f) (Obj q f) ∙ ap (λ y. Obj y f) (sym (swap-here r q) ∙ ap (swapped_ref r q) (sym same))
    | inr no_r ↦ elim (refs_decided x q) [
      | inl same ↦ ap (λ y. swapped_end (Obj r f) (Obj q f) (Obj y f)) same ∙ swap-second (Obj r f) (Obj q f) (ends_differ f) ∙ ap (λ y. Obj y f) (sym (swap-there r q (λ e. ne (sym e))) ∙ ap (swapped_ref r q) (sym same))
      | inr no_q ↦ swap-other (Obj r f) (Obj q f) (Obj x f) (λ e. no_r (same_object x r f f e)) (λ e. no_q (same_object x q f f e)) ∙ ap (λ y. Obj y f) (sym (swap-else r q x no_r no_q))
    ]
  ]

  swapped_past : (f g : ℕ) (x : Ref) → g ≢ f → swapped_end (Obj r f) (Obj q f) (Obj x g) ≡ Obj x g
  swapped_past f g x differ = swap-other (Obj r f) (Obj q f) (Obj x g) (λ e. differ (same_field x r g f e)) (λ e. differ (same_field x q g f e))

  -- a link of a tree is that of the other object
  pub traded-end : (z : Ref) (f : ℕ) → 2 ≤ f → f ≤ 4 → traded_end r q (Obj z f) ≡ Obj (swapped_ref r q z) f
  traded-end z zero low high = absurd (omega (arith, low))
  traded-end z (suc zero) low high = absurd (omega (arith, low))
  traded-end z (suc (suc zero)) low high =
      ap (λ e. swapped_end (Obj r 4) (Obj q 4) (swapped_end (Obj r 3) (Obj q 3) e)) (swapped_field 2 z) ∙ ap (swapped_end (Obj r 4) (Obj q 4)) (swapped_past 3 2 (swapped_ref r q z) (λ e. cc)) ∙ swapped_past 4 2 (swapped_ref r q z) (λ e. cc)
  traded-end z (suc (suc (suc zero))) low high =
      ap (λ e. swapped_end (Obj r 4) (Obj q 4) (swapped_end (Obj r 3) (Obj q 3) e)) (swapped_past 2 3 z (λ e. cc)) ∙ ap (swapped_end (Obj r 4) (Obj q 4)) (swapped_field 3 z) ∙ swapped_past 4 3 (swapped_ref r q z) (λ e. cc)
  traded-end z (suc (suc (suc (suc zero)))) low high =
      ap (λ e. swapped_end (Obj r 4) (Obj q 4) (swapped_end (Obj r 3) (Obj q 3) e)) (swapped_past 2 4 z (λ e. cc)) ∙ ap (swapped_end (Obj r 4) (Obj q 4)) (swapped_past 3 4 z (λ e. cc)) ∙ swapped_field 4 z
  traded-end z (suc (suc (suc (suc (suc f))))) low high = absurd (omega (arith, high))

  -- and another end the same
  pub traded-other : (e : End) → ((f : ℕ) → 2 ≤ f → f ≤ 4 → (e ≢ Obj r f) × (e ≢ Obj q f)) → traded_end r q e ≡ e
  traded-other e off =
      ap (λ d. swapped_end (Obj r 4) (Obj q 4) (swapped_end (Obj r 3) (Obj q 3) d)) (swap-other (Obj r 2) (Obj q 2) e (off 2 (omega arith) (omega arith)).0 (off 2 (omega arith) (omega arith)).1)
      ∙ ap (swapped_end (Obj r 4) (Obj q 4)) (swap-other (Obj r 3) (Obj q 3) e (off 3 (omega arith) (omega arith)).0 (off 3 (omega arith) (omega arith)).1)
      ∙ swap-other (Obj r 4) (Obj q 4) e (off 4 (omega arith) (omega arith)).0 (off 4 (omega arith) (omega arith)).1

module _ (u x y z p w : View) (r q : Ref) (ne : r ≢ q)
    (one : IsExchanged (link_of u) (link_of x) (Obj r 2) (Obj q 2)) (two : IsExchanged (link_of x) (link_of y) (Obj r 3) (Obj q 3)) (three : IsExchanged (link_of y) (link_of z) (Obj r 4) (Obj q 4))
    (same_x : SameObjects u x) (same_y : SameObjects x y) (same_z : SameObjects y z) (to_r to_q : ℕ) (of_q : to_r ≡ balance_of z q) (of_r : to_q ≡ balance_of z r)
    (first : IsRebalanced z p r to_r) (second : IsRebalanced p w q to_q) where
  in_r : (a : Ref) → Contains (r ∷ []) a → Contains (r ∷ (q ∷ [])) a
  in_r a c = elim (member-cases r a [] c) [ inl same ↦ subst (Contains (r ∷ (q ∷ []))) same (member-first r (q ∷ [])) | inr none ↦ absurd (omega (arith, none.1)) ]

  in_q : (a : Ref) → Contains (q ∷ []) a → Contains (r ∷ (q ∷ [])) a
  in_q a c = member-later r a (q ∷ []) c

  level : (a : Ref) → balance_of z a ≡ balance_of u a
  level a = ap balance_in (same_z.bodies a ∙ same_y.bodies a ∙ same_x.bodies a)

  pub traded-is : IsTraded u w r q
  traded-is = record {
    links = λ e.
        let a = swapped_end (Obj r 2) (Obj q 2) in let b = swapped_end (Obj r 3) (Obj q 3) in let c = swapped_end (Obj r 4) (Obj q 4) in
        second.links (traded_end r q e) ∙ first.links (traded_end r q e) ∙ moves (link_of y) (link_of z) (Obj r 4) (Obj q 4) (ends_differ r q ne 4) three (b (a e))
        ∙ ap (option_map c) (moves (link_of x) (link_of y) (Obj r 3) (Obj q 3) (ends_differ r q ne 3) two (a e) ∙ ap (option_map b) (moves (link_of u) (link_of x) (Obj r 2) (Obj q 2) (ends_differ r q ne 2) one e) ∙ twice a b (link_of u e))
        ∙ twice (λ d. b (a d)) c (link_of u e);
    first = rebalanced-others p w q to_q second r ne ∙ first.written ∙ of_q ∙ level q;
    second = second.written ∙ of_r ∙ level r;
    objects =
        let all = r ∷ (q ∷ []) in
        balances-then u z all (balances-then u y all (balances-then u x all (same-objects u x all same_x) y (same-objects x y all same_y)) z (same-objects y z all same_z)) w
        (balances-then z p all (balances-wider z p (r ∷ []) first.objects all in_r) w (balances-wider p w (q ∷ []) second.objects all in_q));
  }

-- the two exchanges of a rotation
pub turned-is : (old middle new : End → Option End) (flank : Flank) (at : End) (y x : Ref) (n f : ℕ) → n ≡ near_link flank → f ≡ far_link flank → IsExchanged old middle at (Obj y n) → IsExchanged middle new (Obj y n) (Obj x f) → IsRotated old new flank at y x
turned-is old middle new flank at y x n f near far first second = record {
  middle = middle;
  first = subst (λ m. IsExchanged old middle at (Obj y m)) near first;
  second = subst (λ m. IsExchanged middle new (Obj y m) (Obj x (far_link flank))) near (subst (λ m. IsExchanged middle new (Obj y n) (Obj x m)) far second);
}
