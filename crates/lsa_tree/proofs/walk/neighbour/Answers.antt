use Rattle.std.proofs.Common.{sym, subst, arith}
use Rattle.lsa_region.specs.declared.end.End.TheVariants.{Obj}
use Rattle.lsa_tree.specs.calls.Placing.{PlaceIn}
use Rattle.lsa_tree.proofs.Walks.{side-place, edge-some, edge-none}
use Rattle.lsa_tree.proofs.walk.neighbour.Goals as goal

pub edge-requires : goal.edge-requires
edge-requires g c =
    let v = c.args.region.now in let w = c.requires in
    (omega arith, subst (λ n. PlaceIn v (Obj c.args.r n)) (sym c.near.ensures) (side-place v c.known.ensures.well c.known.ensures.summed c.args.side w.0 w.1 w.2 c.args.r w.3))

pub returns-in-Some : goal.returns-in-Some
returns-in-Some g c = λ tree front back h.
    let v = c.args.region.now in
    edge-some v c.known.ensures.well c.known.ensures.summed c.args.side tree front back c.args.r h c.other.result c.near.result c.edge.result c.other.ensures c.near.ensures c.edge.ensures.found c.in-Some.q c.in-Some.is

pub returns-in-None : goal.returns-in-None
returns-in-None g c = λ tree front back h.
    let v = c.args.region.now in
    c.above.ensures tree front back h (edge-none v c.known.ensures.well c.known.ensures.summed c.args.side tree front back c.args.r h c.other.result c.near.result c.edge.result c.other.ensures c.near.ensures c.edge.ensures.found c.in-None.is)
