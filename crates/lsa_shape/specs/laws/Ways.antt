-- What stands around a place in a tree, in laws.
use Rattle.std.specs.Prelude.{◌≡◌, ◌⊎◌, List, [], ◌∷◌}
use Rattle.lsa_path.specs.Ref.{Ref}
use Rattle.lsa_shape.specs.Shapes.{IsIn}
use Rattle.lsa_shape.specs.Ways.{ForkAt, Fork}

-- the object is one of those around the place
abbrev pub IsAround : Ref → List Fork → Type 0
IsAround z [] = ⊥
IsAround z (ForkAt flank r beside ∷ way) = (z ≡ r) ⊎ (IsIn z beside ⊎ IsAround z way)
