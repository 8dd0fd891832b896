use Rattle.std.proofs.Common.{◌≡◌, ◌<◌, Some, sym, ap, ◌∙◌, subst, arith}
use Rattle.lsa_region.specs.Ref.{Ref}
use Rattle.lsa_region.specs.declared.end.End.TheVariants.{Obj}
use Rattle.lsa_region.specs.Region.{link_of}
use Rattle.lsa_tree.proofs.Walks.{IsEdging, size_below, edging-there, edging-found, edging-unset, edging-step, edging-smaller}
use Rattle.lsa_tree.proofs.walk.edge.Goals as goal

pub below-requires : goal.below-requires
below-requires g c =
    let v = c.args.region.now in let p = c.requires in let w = c.loop-found.invariant.0 p in
    (omega arith, edging-there v c.known.ensures.well c.known.ensures.summed c.args.side c.args.start p c.loop-found.found c.loop-found.at w.0 w.1 w.2)

pub returns-in-None-clause-found : goal.returns-in-None-clause-found
returns-in-None-clause-found g c = λ p.
    let v = c.args.region.now in let w = c.loop-found.invariant.0 p in
    edging-found v c.known.ensures.well c.known.ensures.summed c.args.side c.args.start p c.loop-found.found c.loop-found.at w.0 w.1 w.2 (sym c.below.ensures ∙ c.in-None.is)

pub returns-in-None-clause-last : goal.returns-in-None-clause-last
returns-in-None-clause-last g c = λ r is.
    let v = c.args.region.now in let p = c.requires in let w = c.loop-found.invariant.0 p in
    ap (link_of v) (sym (c.loop-found.invariant.1 r is)) ∙ edging-unset v c.known.ensures.well c.known.ensures.summed c.args.side c.args.start p c.loop-found.found c.loop-found.at w.0 w.1 w.2 (sym c.below.ensures ∙ c.in-None.is)

pub loop-found-smaller : goal.loop-found-smaller
loop-found-smaller g c =
    let v = c.args.region.now in let p = c.requires in let w = c.loop-found.invariant.0 p in let r = c.in-Some.r in
    subst (λ n. size_below v (Obj r n) < size_below v c.loop-found.at) (sym c.near.ensures)
    (edging-smaller v c.known.ensures.well c.known.ensures.summed c.args.side c.args.start p c.loop-found.found c.loop-found.at w.0 w.1 w.2 r (sym c.below.ensures ∙ c.in-Some.is))

pub loop-found-preserved : goal.loop-found-preserved
loop-found-preserved g c =
    let v = c.args.region.now in let r = c.in-Some.r in (
      λ p.
          let w = c.loop-found.invariant.0 p in
          let s = edging-step v c.known.ensures.well c.known.ensures.summed c.args.side c.args.start p c.loop-found.found c.loop-found.at w.0 w.1 w.2 r (sym c.below.ensures ∙ c.in-Some.is) in
          (s.0, s.1, subst (λ n. IsEdging v c.args.side c.args.start p (Some r) (Obj r n) s.0 s.1) (sym c.near.ensures) s.2),
      λ (q : Ref) is. let same : r ≡ q = cc in λ i. Obj (same i) (c.near.ensures i),
    )
