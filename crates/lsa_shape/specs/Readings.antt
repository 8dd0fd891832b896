-- What links say of a tree: its shape, read downward, and the way upward.
use Rattle.std.specs.Prelude.{◌≡◌, ◌⊎◌, List, [], ◌∷◌, Option, Some}
use Rattle.lsa_path.specs.Ref.{Ref}
use Rattle.lsa_path.specs.End.{End}
use Rattle.lsa_path.specs.End.TheVariants.{Obj}
use Rattle.lsa_shape.specs.Ways.{Fork, ForkAt}

-- from the object these lead up to the end, each entered from a link 3 or 4 of the next one
abbrev pub LeadsUp : (End → Option End) → End → Ref → List Ref → Type 0
LeadsUp named start r [] = named (Obj r 2) ≡ Some start
LeadsUp named start r (q ∷ refs) = ((named (Obj r 2) ≡ Some (Obj q 3)) ⊎ (named (Obj r 2) ≡ Some (Obj q 4))) × LeadsUp named start q refs

-- the objects that the way passes
abbrev pub way_objects : List Fork → List Ref
way_objects [] = []
way_objects (ForkAt flank r beside ∷ way) = r ∷ way_objects way
