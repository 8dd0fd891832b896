-- Two ends change places.
use Rattle.std.proofs.Common.{◌≡◌, ◌≢◌, ◌⊎◌, inl, inr, true, false, cond, ◌&&◌, Option, Some, None, refl, sym, ap, ◌∙◌, subst}
use Rattle.std.specs.Option.{option_map}
use Rattle.std.proofs.lemmas.Bool.{eqb-true, eq-eqb}
use Rattle.std.specs.Prelude.{nat_eq, IfSome}
use Rattle.lsa_region.specs.declared.end.End.{End}
use Rattle.lsa_region.specs.declared.end.End.TheVariants.{Obj, Slot}
use Rattle.lsa_region.specs.Ends.{same_ref, same_end, swapped_end}
use Rattle.lsa_region.specs.Paired.{WellPaired, IsExchanged}
use Rattle.lsa_region.specs.laws.Refs.{both, not_true, ref-itself, ref-told}
use Rattle.lsa_region.specs.laws.Ends.{ends_decided}

pub same_itself : (a : End) → same_end a a ≡ true
same_itself (Obj r f) = ap (λ b. b && nat_eq f f) (ref-itself r) ∙ eq-eqb f f refl
same_itself (Slot r) = eq-eqb r.number r.number refl

pub same_equal : (a b : End) → same_end a b ≡ true → a ≡ b
same_equal (Obj r f) (Obj s g) e =
    let w = both (same_ref r s) (nat_eq f g) e in ap (λ x. Obj x f) (ref-told r s w.0) ∙ ap (λ k. Obj s k) (eqb-true f g w.1)
same_equal (Obj r f) (Slot s) e = cc
same_equal (Slot r) (Obj s g) e = cc
same_equal (Slot r) (Slot s) e = ap (λ n. Slot (record { number = n })) (eqb-true r.number s.number e)

differ_false : (a b : End) → a ≢ b → same_end a b ≡ false
differ_false a b ne = not_true (same_end a b) (λ e. ne (same_equal a b e))

pub swap-first : (a b : End) → swapped_end a b a ≡ b
swap-first a b = ap (λ t. cond t b (cond (same_end a b) a a)) (same_itself a)

pub swap-second : (a b : End) → a ≢ b → swapped_end a b b ≡ a
swap-second a b ne = ap (λ t. cond t b (cond (same_end b b) a b)) (differ_false b a (λ e. ne (sym e))) ∙ ap (λ t. cond t a b) (same_itself b)

pub swap-other : (a b e : End) → e ≢ a → e ≢ b → swapped_end a b e ≡ e
swap-other a b e no_a no_b = ap (λ t. cond t b (cond (same_end e b) a e)) (differ_false e a no_a) ∙ ap (λ t. cond t a e) (differ_false e b no_b)

-- an optional end that is neither of the two stays
pub map_other : (a b : End) (o : Option End) → o ≢ Some a → o ≢ Some b → option_map (swapped_end a b) o ≡ o
map_other a b None no_a no_b = refl
map_other a b (Some e) no_a no_b = ap (λ x. Some x) (swap-other a b e (λ same. no_a (ap (λ x. Some x) same)) (λ same. no_b (ap (λ x. Some x) same)))

options_decided : (o : Option End) (e : End) → (o ≡ Some e) ⊎ (o ≢ Some e)
options_decided None e = inr (λ same. cc)
options_decided (Some x) e = elim (ends_decided x e) [ inl same ↦ inl (ap (λ y. Some y) same) | inr ne ↦ inr (λ same. ne (cc)) ]

-- after each of the two was pointed at the other's mate
pub exchanged : (old mid new : End → Option End) (a b : End) → WellPaired old → a ≢ b → old a ≢ Some b
    → mid a ≡ old b → ((m : End) → old b ≡ Some m → mid m ≡ Some a) → ((e : End) → e ≢ a → old b ≢ Some e → mid e ≡ old e)
    → new b ≡ old a → ((m : End) → old a ≡ Some m → new m ≡ Some b) → ((e : End) → e ≢ b → old a ≢ Some e → new e ≡ mid e) → IsExchanged old new a b
exchanged old mid new a b well differ untied here_a mates_a others_a here_b mates_b others_b = record {
  first = others_b a differ (well.apart a) ∙ here_a ∙ sym (map_other a b (old b) (λ e. untied (well.mates b a e)) (well.apart b));
  second = here_b ∙ sym (map_other a b (old a) (well.apart a) untied);
  others = λ e no_a no_b. elim (options_decided (old a) e) [
    | inl mate ↦ mates_b e mate ∙ sym (ap (option_map (swapped_end a b)) (well.mates a e mate) ∙ ap (λ x. Some x) (swap-first a b))
    | inr no_mate ↦ others_b e no_b no_mate ∙ elim (options_decided (old b) e) [
      | inl mate ↦ mates_a e mate ∙ sym (ap (option_map (swapped_end a b)) (well.mates b e mate) ∙ ap (λ x. Some x) (swap-second a b differ))
      | inr free ↦ others_a e no_a free ∙ sym (map_other a b (old e) (λ x. no_mate (well.mates e a x)) (λ x. free (well.mates e b x)))
    ]
  ];
}

-- two ends that name each other stay
pub exchanged-tied : (old : End → Option End) (a b : End) → WellPaired old → a ≢ b → old a ≡ Some b → IsExchanged old old a b
exchanged-tied old a b well differ tied = let back = well.mates a b tied in record {
  first = tied ∙ sym (ap (option_map (swapped_end a b)) back ∙ ap (λ x. Some x) (swap-first a b));
  second = back ∙ sym (ap (option_map (swapped_end a b)) tied ∙ ap (λ x. Some x) (swap-second a b differ));
  others = λ e no_a no_b. sym (map_other a b (old e) (λ x. let d = well.mates e a x in let same : b ≡ e = cc in no_b (sym same)) (λ x. let d = well.mates e b x in let same : a ≡ e = cc in no_a (sym same)));
}

-- two ends that name nothing stay
pub exchanged-unset : (old : End → Option End) (a b : End) → WellPaired old → old a ≡ None → old b ≡ None → IsExchanged old old a b
exchanged-unset old a b well none_a none_b = record {
  first = none_a ∙ sym (ap (option_map (swapped_end a b)) none_b);
  second = none_b ∙ sym (ap (option_map (swapped_end a b)) none_a);
  others = λ e no_a no_b. sym (map_other a b (old e) (λ x. let clash = sym none_a ∙ well.mates e a x in cc) (λ x. let clash = sym none_b ∙ well.mates e b x in cc));
}

-- the exchange at any end
pub at_end : (old new : End → Option End) (a b : End) → a ≢ b → IsExchanged old new a b → (e : End) → new e ≡ option_map (swapped_end a b) (old (swapped_end a b e))
at_end old new a b differ x e = elim (ends_decided e a) [
  | inl same ↦ ap new same ∙ x.first ∙ ap (λ y. option_map (swapped_end a b) (old y)) (sym (ap (swapped_end a b) same ∙ swap-first a b))
  | inr no_a ↦ elim (ends_decided e b) [
    | inl same ↦ ap new same ∙ x.second ∙ ap (λ y. option_map (swapped_end a b) (old y)) (sym (ap (swapped_end a b) same ∙ swap-second a b differ))
    | inr no_b ↦ x.others e no_a no_b ∙ ap (λ y. option_map (swapped_end a b) (old y)) (sym (swap-other a b e no_a no_b))
  ]
]

pub swap_twice : (a b e : End) → a ≢ b → swapped_end a b (swapped_end a b e) ≡ e
swap_twice a b e differ = elim (ends_decided e a) [
  | inl same ↦ ap (λ y. swapped_end a b (swapped_end a b y)) same ∙ ap (swapped_end a b) (swap-first a b) ∙ swap-second a b differ ∙ sym same
  | inr no_a ↦ elim (ends_decided e b) [
    | inl same ↦ ap (λ y. swapped_end a b (swapped_end a b y)) same ∙ ap (swapped_end a b) (swap-second a b differ) ∙ swap-first a b ∙ sym same
    | inr no_b ↦ ap (swapped_end a b) (swap-other a b e no_a no_b) ∙ swap-other a b e no_a no_b
  ]
]

some_mapped : (f : End → End) (o : Option End) (y : End) → option_map f o ≡ Some y → (z : End) × (o ≡ Some z) × (f z ≡ y)
some_mapped f None y e = cc
some_mapped f (Some z) y e = (z, refl, cc)

-- what an end names after the exchange, and that it is one of the two or was named before
pub exchanged-from : (old new : End → Option End) (a b : End) → a ≢ b → IsExchanged old new a b → (x y : End) → new x ≡ Some y → (old (swapped_end a b x) ≡ Some (swapped_end a b y))
exchanged-from old new a b differ ex x y e =
    let w = some_mapped (swapped_end a b) (old (swapped_end a b x)) y (sym (at_end old new a b differ ex x) ∙ e) in
    w.1 ∙ ap (λ z. Some z) (sym (swap_twice a b w.0 differ) ∙ ap (swapped_end a b) w.2)

pub exchanged-well : (old new : End → Option End) (a b : End) → a ≢ b → IsExchanged old new a b → WellPaired old → WellPaired new
exchanged-well old new a b differ ex well = record {
  mates = λ x y e. at_end old new a b differ ex y ∙ ap (option_map (swapped_end a b)) (well.mates (swapped_end a b x) (swapped_end a b y) (exchanged-from old new a b differ ex x y e)) ∙ ap (λ z. Some z) (swap_twice a b x differ);
  apart = λ x e. well.apart (swapped_end a b x) (exchanged-from old new a b differ ex x x e);
}

-- what holds of both ends and of the swapped end holds of the end
pub swapped-holds : (a b e : End) (P : End → Type 0) → P a → P b → P (swapped_end a b e) → P e
swapped-holds a b e P at_a at_b h = elim (ends_decided e a) [
  | inl same ↦ subst P (sym same) at_a
  | inr no_a ↦ elim (ends_decided e b) [ inl same ↦ subst P (sym same) at_b | inr no_b ↦ subst P (swap-other a b e no_a no_b) h ]
]

pub all-some : (P : End → Type 0) (o : Option End) → ((e : End) → o ≡ Some e → P e) → IfSome o P
all-some P None h = tt
all-some P (Some e) h = h e refl
