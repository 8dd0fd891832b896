-- How bytes are cut into lines.
use Rattle.std.specs.Prelude.{◌≡◌, ◌≢◌, ◌⊎◌, ℕ, List, [], ◌∷◌, ◌++◌, if◌then◌else◌}
use Rattle.std.specs.List.{AllByRecursion, flat_map}
use Rattle.rc_mutation.specs.Fragments.{has_any}

-- a line has no newline in it
abbrev pub IsLine : List ℕ → Type 0
IsLine line = AllByRecursion (λ byte. byte ≢ 10) line

-- the bytes begin with these whole lines, a newline behind each, and more comes behind them
abbrev pub BeginsWithLines : List ℕ → List (List ℕ) → List ℕ → Type 0
BeginsWithLines bytes lines more = (bytes ≡ flat_map (λ line. line ++ 10 ∷ []) lines ++ more) × AllByRecursion IsLine lines

-- what stands behind the last newline is a line where it is not empty
abbrev pub last_line : List ℕ → List (List ℕ)
last_line rest = if has_any rest then rest ∷ [] else []

-- the bytes begin with this line: a newline ends it; or it is all of them, where these are the last ones
abbrev pub IsNextLine : Type 0 → List ℕ → List ℕ → Type 0
IsNextLine AreLast bytes line = IsLine line × (((rest : List ℕ) × (bytes ≡ line ++ 10 ∷ rest)) ⊎ ((bytes ≡ line) × AreLast))
