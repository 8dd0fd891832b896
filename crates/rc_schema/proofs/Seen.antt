-- Tests and maps over what references point to.
use Rattle.std.proofs.Common.{◌≡◌, ℕ, suc, Bool, not, ◌&&◌, ◌||◌, ◌∙◌, List, [], ◌∷◌, ◌++◌, length, Bor, refl, ap, map}
use Rattle.std.specs.List.{list_all, list_any}
use Rattle.rc_schema.specs.SchemaValue.{is_name, are_distinct_by, are_names}
use Rattle.rc_spelling.specs.Words.{is_word}
use Rattle.std.proofs.lemmas.List.Folds.{list_all-map}
use Rattle.std.proofs.lemmas.List.{map-append}

pub all_seen : (p : List ℕ → Bool) (xs : List (Bor (List ℕ))) → list_all p (map (λ x. x.now) xs) ≡ list_all (λ x. p x.now) xs
all_seen p xs = list_all-map p (λ x. x.now) xs

pub any_seen : (p : List ℕ → Bool) (xs : List (Bor (List ℕ))) → list_any p (map (λ x. x.now) xs) ≡ list_any (λ x. p x.now) xs
any_seen p [] = refl
any_seen p (x ∷ xs) = ap (λ (b : Bool). p x.now || b) (any_seen p xs)

pub map_seen : {K : Type 0} (f : List ℕ → K) (xs : List (Bor (List ℕ))) → map f (map (λ x. x.now) xs) ≡ map (λ x. f x.now) xs
map_seen f [] = refl
map_seen f (x ∷ xs) = ap (λ ys. f x.now ∷ ys) (map_seen f xs)

pub seen_append : (xs ys : List (Bor (List ℕ))) → map (λ x. x.now) (xs ++ ys) ≡ map (λ x. x.now) xs ++ map (λ x. x.now) ys
seen_append xs ys = map-append (λ x. x.now) xs ys

pub distinct_seen : (xs : List (Bor (List ℕ))) → are_distinct_by is_word (map (λ x. x.now) xs) ≡ are_distinct_by (λ x y. is_word x.now y.now) xs
distinct_seen [] = refl
distinct_seen (x ∷ xs) =
    ap (λ (b : Bool). not b && are_distinct_by is_word (map (λ x. x.now) xs)) (any_seen (is_word x.now) xs)
    ∙ ap (λ (b : Bool). not (list_any (λ y. is_word x.now y.now) xs) && b) (distinct_seen xs)

pub names_seen : (xs : List (Bor (List ℕ))) → are_names (map (λ x. x.now) xs) ≡ list_all (λ x. is_name x.now) xs && are_distinct_by (λ x y. is_word x.now y.now) xs
names_seen xs =
    ap (λ (b : Bool). b && are_distinct_by is_word (map (λ x. x.now) xs)) (all_seen is_name xs)
    ∙ ap (λ (b : Bool). list_all (λ x. is_name x.now) xs && b) (distinct_seen xs)

pub lengths_seen : (xs : List (Bor (List ℕ))) → length (map (λ x. x.now) xs) ≡ length xs
lengths_seen [] = refl
lengths_seen (x ∷ xs) = ap (λ (n : ℕ). suc n) (lengths_seen xs)
