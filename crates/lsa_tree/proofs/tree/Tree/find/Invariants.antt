-- The entries before the place stand before what is looked for, and those behind it behind; so many were compared as the way has forks.
use Rattle.std.proofs.Common.{◌≡◌, List, ℕ, ◌+◌, length}
use Rattle.lsa_region.specs.Ref.{Ref}
use Rattle.lsa_shape.specs.Shapes.{TreeShape}
use Rattle.lsa_shape.specs.Ways.{Fork}
use Rattle.lsa_tree.specs.Tree.{IsTree}
use Rattle.lsa_tree.proofs.Searches.{IsReached}
use Rattle.lsa_tree.proofs.Walks.{size_below}
use Rattle.lsa_tree.proofs.tree.Tree.find.Given as goal

abbrev pub invariant-loop-r : goal.invariant-loop-r
invariant-loop-r g l = (refs : List Ref) → IsTree l.self l.region refs → (way : List Fork) × (s : TreeShape) × (here : ℕ) × (depth : ℕ) × IsReached l.self l.region l.x l.at l.next refs way s here depth × (l.steps ≡ l.fn.steps + length way)

abbrev pub decreases-loop-r : goal.decreases-loop-r
decreases-loop-r g l = size_below l.region l.at
