-- The first of some pieces, where all of them are components.
use Rattle.std.proofs.Common.{◌≡◌, ℕ, suc, zero, true, false, List, [], ◌∷◌, take, drop, map, Option, Some, None, refl, ap, sym, ◌∙◌, ◌≤◌, length, arith}
use Rattle.std.specs.Option.{option_map, option_and_then, is_some}
use Rattle.std.proofs.lemmas.List.{take-map, drop-map, length-map}
use Rattle.rc_spelling.specs.Spelling.{component_spelled}
use Rattle.rc_spelling.specs.Words.{each_of}

-- the first of a component and others
first_more : (n : ℕ) (component : List ℕ) (o : Option (List (List ℕ))) → option_map (take (suc n)) (option_map (λ more. component ∷ more) o) ≡ option_map (λ more. component ∷ more) (option_map (take n) o)
first_more n component None = refl
first_more n component (Some more) = refl

none_first : (o : Option (List (List ℕ))) → is_some o ≡ true → option_map (take zero) o ≡ Some []
none_first None h = cc
none_first (Some xs) h = refl

-- where the pieces behind the first ones are components, the first components are those of the first pieces
pub first_pieces : (n : ℕ) (pieces : List (List ℕ)) → is_some (each_of component_spelled (drop n pieces)) ≡ true → option_map (take n) (each_of component_spelled pieces) ≡ each_of component_spelled (take n pieces)
first_pieces zero pieces h = none_first (each_of component_spelled pieces) h
first_pieces (suc n) [] h = refl
first_pieces (suc n) (piece ∷ pieces) h =
    elim (component_spelled piece) as (λ o. option_map (take (suc n)) (option_and_then (λ component. option_map (λ components. component ∷ components) (each_of component_spelled pieces)) o)
    ≡ option_and_then (λ component. option_map (λ components. component ∷ components) (each_of component_spelled (take n pieces))) o) [
      | None ↦ refl
      | Some component ↦ first_more n component (each_of component_spelled pieces) ∙ ap (option_map (λ components. component ∷ components)) (first_pieces n pieces h)
    ]

none_behind : (o : Option (List ℕ)) (p : Option (List (List ℕ))) → is_some p ≡ false → is_some (option_and_then (λ component. option_map (λ components. component ∷ components) p) o) ≡ false
none_behind None p h = refl
none_behind (Some component) None h = refl
none_behind (Some component) (Some components) h = cc

none_all : (n : ℕ) (pieces : List (List ℕ)) → is_some (each_of component_spelled (drop n pieces)) ≡ false → is_some (each_of component_spelled pieces) ≡ false
none_all zero pieces h = h
none_all (suc n) [] h = h
none_all (suc n) (piece ∷ pieces) h = none_behind (component_spelled piece) (each_of component_spelled pieces) (none_all n pieces h)

nothing : (n : ℕ) (o : Option (List (List ℕ))) → is_some o ≡ false → option_map (take n) o ≡ None
nothing n None h = refl
nothing n (Some xs) h = cc

-- where one of those behind the first ones is no component, nothing is spelled
pub no_pieces : (n : ℕ) (pieces : List (List ℕ)) → is_some (each_of component_spelled (drop n pieces)) ≡ false → option_map (take n) (each_of component_spelled pieces) ≡ None
no_pieces n pieces h = nothing n (each_of component_spelled pieces) (none_all n pieces h)

nothing_first : (n : ℕ) → ◌≡◌ {A = Option (List (List ℕ))} (Some (take n [])) (Some [])
nothing_first zero = refl
nothing_first (suc n) = refl

-- so many or fewer are all of them
pub all_pieces : (n : ℕ) (pieces : List (List ℕ)) → length pieces ≤ n → option_map (take n) (each_of component_spelled pieces) ≡ each_of component_spelled pieces
all_pieces n [] h = nothing_first n
all_pieces zero (piece ∷ pieces) h = absurd (omega arith)
all_pieces (suc n) (piece ∷ pieces) h =
    elim (component_spelled piece) as (λ o. option_map (take (suc n)) (option_and_then (λ component. option_map (λ components. component ∷ components) (each_of component_spelled pieces)) o)
    ≡ option_and_then (λ component. option_map (λ components. component ∷ components) (each_of component_spelled pieces)) o) [
      | None ↦ refl
      | Some component ↦ first_more n component (each_of component_spelled pieces) ∙ ap (option_map (λ components. component ∷ components)) (all_pieces n pieces (omega arith))
    ]

ahead : (o : Option (List ℕ)) (p : Option (List (List ℕ))) → is_some o ≡ true → is_some (option_and_then (λ component. option_map (λ components. component ∷ components) p) o) ≡ is_some p
ahead None p h = cc
ahead (Some component) None h = refl
ahead (Some component) (Some components) h = refl

not_ahead : (o : Option (List ℕ)) (p : Option (List (List ℕ))) → is_some o ≡ false → is_some (option_and_then (λ component. option_map (λ components. component ∷ components) p) o) ≡ false
not_ahead None p h = refl
not_ahead (Some component) p h = cc

-- a component before others
pub component_ahead : (piece : List ℕ) (pieces : List (List ℕ)) → is_some (component_spelled piece) ≡ true → is_some (each_of component_spelled (piece ∷ pieces)) ≡ is_some (each_of component_spelled pieces)
component_ahead piece pieces h = ahead (component_spelled piece) (each_of component_spelled pieces) h

-- what is no component before others
pub none_ahead : (piece : List ℕ) (pieces : List (List ℕ)) → is_some (component_spelled piece) ≡ false → is_some (each_of component_spelled (piece ∷ pieces)) ≡ false
none_ahead piece pieces h = not_ahead (component_spelled piece) (each_of component_spelled pieces) h

-- the same of what is seen of the pieces
pub first_seen : {X : Type 0} (f : X → List ℕ) (n : ℕ) (xs front back : List X) → front ≡ take n xs → back ≡ drop n xs → is_some (each_of component_spelled (map f back)) ≡ true
    → option_map (take n) (each_of component_spelled (map f xs)) ≡ each_of component_spelled (map f front)
first_seen f n xs front back e d h =
    first_pieces n (map f xs) (ap (λ ys. is_some (each_of component_spelled ys)) (drop-map f n xs ∙ ap (map f) (sym d)) ∙ h) ∙ ap (each_of component_spelled) (take-map f n xs ∙ ap (map f) (sym e))

pub none_seen : {X : Type 0} (f : X → List ℕ) (n : ℕ) (xs back : List X) → back ≡ drop n xs → is_some (each_of component_spelled (map f back)) ≡ false
    → option_map (take n) (each_of component_spelled (map f xs)) ≡ None
none_seen f n xs back d h = no_pieces n (map f xs) (ap (λ ys. is_some (each_of component_spelled ys)) (drop-map f n xs ∙ ap (map f) (sym d)) ∙ h)

pub all_seen : {X : Type 0} (f : X → List ℕ) (n : ℕ) (xs : List X) → length xs ≤ n → option_map (take n) (each_of component_spelled (map f xs)) ≡ each_of component_spelled (map f xs)
all_seen f n xs h = all_pieces n (map f xs) (omega (arith, length-map xs f))
