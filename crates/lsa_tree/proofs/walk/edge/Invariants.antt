-- What is left below the end that was come to has the same outermost entry, and is smaller each time.
use Rattle.std.proofs.Common.{◌≡◌, List, Some}
use Rattle.lsa_region.specs.Ref.{Ref}
use Rattle.lsa_region.specs.declared.end.End.TheVariants.{Obj}
use Rattle.lsa_shape.specs.Flanks.{near_link}
use Rattle.lsa_shape.specs.Shapes.{TreeShape}
use Rattle.lsa_shape.specs.Ways.{Fork}
use Rattle.lsa_tree.specs.calls.Placing.{PlaceIn}
use Rattle.lsa_tree.proofs.Walks.{IsEdging, size_below}
use Rattle.lsa_tree.proofs.walk.edge.Given as goal

abbrev pub invariant-loop-found : goal.invariant-loop-found
invariant-loop-found g l = ((p : PlaceIn l.region l.fn.start) → (way : List Fork) × (t : TreeShape) × IsEdging l.region l.fn.side l.fn.start p l.found l.at way t) × ((r : Ref) → l.found ≡ Some r → l.at ≡ Obj r (near_link l.fn.side))

abbrev pub decreases-loop-found : goal.decreases-loop-found
decreases-loop-found g l = size_below l.region l.at
