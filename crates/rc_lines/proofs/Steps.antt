-- One step of a loop that makes a list, item by item, or nothing.
use Rattle.std.proofs.Common.{◌≡◌, ◌∙◌, ℕ, List, [], ◌∷◌, ◌++◌, refl, sym, ap, append_assoc}
use Rattle.std.specs.declared.option.Option.{Option}
use Rattle.std.specs.declared.option.Option.TheVariants.{Some, None}
use Rattle.std.specs.Option.{option_map}

pub one_more : {X : Type 0} (made : List X) (item : X) (rest : Option (List X)) →
    option_map (λ r. made ++ r) (option_map (λ r. item ∷ r) rest) ≡ option_map (λ r. (made ++ item ∷ []) ++ r) rest
one_more made item None = refl
one_more made item (Some r) = ap Some (sym (append_assoc made (item ∷ []) r))

-- three texts, one behind another, behind what was there
pub three_behind : (old a b d first second third : List ℕ) → first ≡ old ++ a → second ≡ first ++ b → third ≡ second ++ d → third ≡ old ++ (a ++ b ++ d)
three_behind old a b d first second third p q r =
    r ∙ ap (λ (text : List ℕ). text ++ d) (q ∙ ap (λ (text : List ℕ). text ++ b) p) ∙ append_assoc (old ++ a) b d ∙ append_assoc old a (b ++ d) ∙ ap (λ (text : List ℕ). old ++ text) (sym (append_assoc a b d))
