-- Numbers as they are taken and given back.
use Rattle.std.specs.Prelude.{◌≡◌, ◌<◌, ◌≤◌, ◌⊎◌, ◌++◌, ◌∷◌, [], ℕ, List, Option, None, length, slice_index}
use Rattle.rc_registry.specs.Registry.{Use}

-- a number at which no chain is was taken: the last vacant one, or where none is vacant the one behind all, which the list of chains reaches then
abbrev pub IsTakenNumber : List (Option Use) → List (Option Use) → List ℕ → List ℕ → ℕ → Type 0
IsTakenNumber old new vacant left id = ((vacant ≡ left ++ id ∷ []) × (new ≡ old)) ⊎ ((vacant ≡ []) × (left ≡ []) × (id ≡ length old) × (new ≡ old ++ None ∷ []))

-- what a list says at its numbers stays, and it is no shorter
pub record IsLonger (old new : List ℕ) : Type 0 where
  pub longer : length old ≤ length new
  pub stay : (n : ℕ) → n < length old → slice_index new n ≡ slice_index old n
