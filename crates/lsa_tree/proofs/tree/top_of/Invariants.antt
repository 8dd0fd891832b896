-- The entry that the way up has come to is one of the tree; fewer are above it each time.
use Rattle.std.proofs.Common.{List}
use Rattle.std.specs.Prelude.{Contains}
use Rattle.lsa_region.specs.Ref.{Ref}
use Rattle.lsa_shape.specs.Shapes.{TreeShape, Node}
use Rattle.lsa_shape.specs.Ways.{Fork, plug}
use Rattle.lsa_tree.specs.declared.tree.Tree.{Tree}
use Rattle.lsa_tree.specs.Tree.{IsTree}
use Rattle.lsa_tree.specs.calls.Placing.{IsFormed}
use Rattle.lsa_tree.proofs.Walks.{up_from}
use Rattle.lsa_tree.proofs.tree.top_of.Given as goal

abbrev pub invariant-loop-end : goal.invariant-loop-end
invariant-loop-end g l = (tree : Tree) (refs : List Ref) → IsTree tree l.region refs → Contains refs l.fn.r → (way : List Fork) × (a : TreeShape) × (b : TreeShape) × IsFormed tree l.region refs (plug way (Node a l.at b))

abbrev pub decreases-loop-end : goal.decreases-loop-end
decreases-loop-end g l = up_from l.region l.at
