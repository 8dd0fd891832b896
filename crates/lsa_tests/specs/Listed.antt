-- An object of a recency list that a walk may find.
use Rattle.std.specs.Prelude.{List, ◌∷◌, ◌++◌, Option, IfSome}
use Rattle.lsa_region.specs.Ref.{Ref}
use Rattle.lsa_region.specs.Region.{View}
use Rattle.lsa_list.specs.declared.recency.List.{List as Slots}
use Rattle.lsa_list.specs.Recency.{IsList}

-- the object is one of the list, if it is an object
abbrev pub IsOneOf : Slots → View → Option Ref → Type 0
IsOneOf slots v found = IfSome found (λ r. (xs : List Ref) × (ys : List Ref) × IsList slots v (xs ++ (r ∷ ys)))
