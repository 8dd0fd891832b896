-- Balanced trees: how deep, by the balance of each object.
use Rattle.std.specs.Prelude.{◌≡◌, ◌⊎◌, ℕ, suc, List, [], ◌∷◌}
use Rattle.lsa_path.specs.Ref.{Ref}
use Rattle.lsa_shape.specs.declared.flank.Flank.{Flank}
use Rattle.lsa_shape.specs.declared.flank.Flank.TheVariants.{Low}
use Rattle.lsa_shape.specs.Flanks.{near_heavy, far_heavy}
use Rattle.lsa_shape.specs.Shapes.{TreeShape, Leaf, Node}
use Rattle.lsa_shape.specs.Ways.{Fork, ForkAt}

-- an object with this balance has this depth: 0 where both sides are as deep, else the balance of the deeper side, which is deeper by one
abbrev pub HasBalance : Flank → ℕ → ℕ → ℕ → ℕ → Type 0
HasBalance flank balance near far depth = ((balance ≡ 0) × (near ≡ far) × (depth ≡ suc far)) ⊎ (((balance ≡ near_heavy flank) × (near ≡ suc far) × (depth ≡ suc near)) ⊎ ((balance ≡ far_heavy flank) × (far ≡ suc near) × (depth ≡ suc far)))

-- the tree has this depth, and each object its balance
abbrev pub IsLevel : (Ref → ℕ) → TreeShape → ℕ → Type 0
IsLevel lean Leaf depth = depth ≡ 0
IsLevel lean (Node l r t) depth = (near : ℕ) × (far : ℕ) × IsLevel lean l near × IsLevel lean t far × HasBalance Low (lean r) near far depth

-- with a tree of the first depth at the place the whole has the second
abbrev pub IsLevelAround : (Ref → ℕ) → List Fork → ℕ → ℕ → Type 0
IsLevelAround lean [] here depth = here ≡ depth
IsLevelAround lean (ForkAt flank r beside ∷ way) here depth = (far : ℕ) × (above : ℕ) × IsLevel lean beside far × HasBalance flank (lean r) here far above × IsLevelAround lean way above depth
