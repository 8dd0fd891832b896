-- The words of a line.
use Rattle.std.specs.Prelude.{ℕ, ◌==◌, Bool, nat_eq, List, [], ◌∷◌, Option, Some, option_and_then}
use Rattle.std.specs.List.{slice_split}
use Rattle.std.specs.Option.{option_map}
use lib.Pointwise.{pointwise}

-- what stands between the spaces
abbrev pub words : List ℕ → List (List ℕ)
words line = slice_split (λ byte. byte == 32) line

-- whether a word is this one
abbrev pub is_word : List ℕ → List ℕ → Bool
is_word word text = pointwise nat_eq word text

-- what each word says, where each says something
abbrev pub each_of : {A : Type 0} → (List ℕ → Option A) → List (List ℕ) → Option (List A)
each_of read [] = Some []
each_of read (word ∷ words) = option_and_then (λ item. option_map (λ items. item ∷ items) (each_of read words)) (read word)
