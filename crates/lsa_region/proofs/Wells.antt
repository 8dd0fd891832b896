-- Pairs stay pairs.
use Rattle.std.proofs.Common.{◌≡◌, ◌≢◌, inl, inr, Option, Some, None, sym, ap, ◌∙◌}
use Rattle.lsa_region.specs.declared.end.End.{End}
use Rattle.lsa_region.specs.Paired.{WellPaired, IsTied, IsParted}
use Rattle.lsa_region.specs.laws.Ends.{ends_decided}

pub well-tie : (old new : End → Option End) (a b : End) → WellPaired old → IsTied old new a b → old a ≡ None → old b ≡ None → a ≢ b → WellPaired new
well-tie old new a b well tied unset unset' differ = record {
  mates = λ x y e. elim (ends_decided x a) [
    | inl at ↦ let named : new x ≡ Some b = ap new at ∙ tied.first in let same : b ≡ y = cc in ap new (sym same) ∙ tied.second ∙ ap (λ z. Some z) (sym at)
    | inr no_a ↦ elim (ends_decided x b) [
      | inl at ↦ let named : new x ≡ Some a = ap new at ∙ tied.second in let same : a ≡ y = cc in ap new (sym same) ∙ tied.first ∙ ap (λ z. Some z) (sym at)
      | inr no_b ↦ let was : old x ≡ Some y = sym (tied.others x no_a no_b) ∙ e in let back = well.mates x y was in
          tied.others y (λ at. let none : old y ≡ None = ap old at ∙ unset in let clash = sym none ∙ back in cc) (λ at. let none : old y ≡ None = ap old at ∙ unset' in let clash = sym none ∙ back in cc) ∙ back
    ]
  ];
  apart = λ x e. elim (ends_decided x a) [
    | inl at ↦ let named : new x ≡ Some b = ap new at ∙ tied.first in let same : b ≡ x = cc in differ (sym at ∙ sym same)
    | inr no_a ↦ elim (ends_decided x b) [
      | inl at ↦ let named : new x ≡ Some a = ap new at ∙ tied.second in let same : a ≡ x = cc in differ (same ∙ at)
      | inr no_b ↦ well.apart x (sym (tied.others x no_a no_b) ∙ e)
    ]
  ];
}

pub well-part : (old new : End → Option End) (a b : End) → WellPaired old → IsParted old new a b → old a ≡ Some b → WellPaired new
well-part old new a b well parted set = let back_set = well.mates a b set in record {
  mates = λ x y e. elim (ends_decided x a) [
    | inl at ↦ let named : new x ≡ None = ap new at ∙ parted.first in let clash = sym named ∙ e in cc
    | inr no_a ↦ elim (ends_decided x b) [
      | inl at ↦ let named : new x ≡ None = ap new at ∙ parted.second in let clash = sym named ∙ e in cc
      | inr no_b ↦ let was : old x ≡ Some y = sym (parted.others x no_a no_b) ∙ e in let back = well.mates x y was in
          parted.others y (λ at. let named : old y ≡ Some b = ap old at ∙ set in let same : b ≡ x = cc in no_b (sym same))
          (λ at. let named : old y ≡ Some a = ap old at ∙ back_set in let same : a ≡ x = cc in no_a (sym same)) ∙ back
    ]
  ];
  apart = λ x e. elim (ends_decided x a) [
    | inl at ↦ let named : new x ≡ None = ap new at ∙ parted.first in let clash = sym named ∙ e in cc
    | inr no_a ↦ elim (ends_decided x b) [
      | inl at ↦ let named : new x ≡ None = ap new at ∙ parted.second in let clash = sym named ∙ e in cc
      | inr no_b ↦ well.apart x (sym (parted.others x no_a no_b) ∙ e)
    ]
  ];
}
