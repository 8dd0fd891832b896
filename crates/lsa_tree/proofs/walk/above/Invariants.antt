-- What is beside the entry that the way has come to is what was looked for.
use Rattle.std.proofs.Common.{◌≡◌, List, ◌∷◌, ◌++◌, None}
use Rattle.lsa_region.specs.Ref.{Ref}
use Rattle.lsa_region.specs.declared.end.End.TheVariants.{Obj}
use Rattle.lsa_region.specs.Region.{link_of}
use Rattle.lsa_shape.specs.Flanks.{near_link}
use Rattle.lsa_shape.specs.Shapes.{TreeShape, Node}
use Rattle.lsa_shape.specs.Ways.{Fork, plug}
use Rattle.lsa_tree.specs.declared.tree.Tree.{Tree}
use Rattle.lsa_tree.specs.Tree.{IsTree}
use Rattle.lsa_tree.specs.calls.Placing.{IsFormed}
use Rattle.lsa_tree.specs.calls.Walking.{neighbour_on}
use Rattle.lsa_tree.proofs.Walks.{IsClimbing, up_from}
use Rattle.lsa_tree.proofs.walk.above.Given as goal

abbrev pub invariant-loop-on : goal.invariant-loop-on
invariant-loop-on g l = ((tree : Tree) × (refs : List Ref) × (way : List Fork) × (a : TreeShape) × (b : TreeShape) × IsFormed tree l.region refs (plug way (Node a l.r b)))
    × ((tree : Tree) (front back : List Ref) → IsTree tree l.region (front ++ (l.fn.start ∷ back)) → link_of l.region (Obj l.fn.start (near_link l.fn.side)) ≡ None
    → (way : List Fork) × (a : TreeShape) × (b : TreeShape) × IsClimbing l.region l.fn.side tree (front ++ (l.fn.start ∷ back)) (neighbour_on l.fn.side front back) l.r way a b)

abbrev pub decreases-loop-on : goal.decreases-loop-on
decreases-loop-on g l = up_from l.region l.r
