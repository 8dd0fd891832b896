-- A place in a tree: the way from there to the top.
use Rattle.std.specs.Prelude.{List, [], ◌∷◌, ◌++◌}
use Rattle.lsa_path.specs.Ref.{Ref}
use Rattle.lsa_path.specs.End.{End}
use Rattle.lsa_path.specs.End.TheVariants.{Obj}
use Rattle.lsa_shape.specs.declared.flank.Flank.{Flank}
use Rattle.lsa_shape.specs.declared.flank.Flank.TheVariants.{Low, High}
use Rattle.lsa_shape.specs.Flanks.{near_link}
use Rattle.lsa_shape.specs.Shapes.{TreeShape, inorder, node_on}

-- an object that the way passes: on which of its sides the place is, and what hangs on the other one
pub data Fork : Type 0 where
  ForkAt : Flank → Ref → TreeShape → Fork

-- the tree with this at the place; the nearest fork comes first
abbrev pub plug : List Fork → TreeShape → TreeShape
plug [] s = s
plug (ForkAt flank r beside ∷ way) s = plug way (node_on flank s r beside)

-- the end at which the place hangs, in a tree that hangs at this one
abbrev pub hole : End → List Fork → End
hole start [] = start
hole start (ForkAt flank r beside ∷ way) = Obj r (near_link flank)

-- the objects of a fork before the place
abbrev pub fork_before : Fork → List Ref
fork_before (ForkAt Low r beside) = []
fork_before (ForkAt High r beside) = inorder beside ++ (r ∷ [])

-- the objects of a fork behind the place
abbrev pub fork_behind : Fork → List Ref
fork_behind (ForkAt Low r beside) = r ∷ inorder beside
fork_behind (ForkAt High r beside) = []

-- the objects before the place
abbrev pub way_before : List Fork → List Ref
way_before [] = []
way_before (fork ∷ way) = way_before way ++ fork_before fork

-- the objects behind the place
abbrev pub way_behind : List Fork → List Ref
way_behind [] = []
way_behind (fork ∷ way) = fork_behind fork ++ way_behind way
