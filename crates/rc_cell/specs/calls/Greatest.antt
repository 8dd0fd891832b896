-- Whether there is nothing to choose the greatest of.
use Rattle.std.specs.Prelude.{Bool, true, false, List, [], ◌∷◌}

-- the list is empty
abbrev pub is_nil : {K : Type 0} → List K → Bool
is_nil [] = true
is_nil (x ∷ xs) = false
