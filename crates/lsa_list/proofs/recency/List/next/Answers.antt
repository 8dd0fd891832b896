use Rattle.std.proofs.Common.{ap, ◌∙◌, arith}
use Rattle.lsa_region.specs.declared.end.End.TheVariants.{Obj}
use Rattle.lsa_region.specs.Region.{link_of}
use Rattle.lsa_list.specs.calls.Recency.{object_of}
use Rattle.lsa_list.specs.laws.Lists.{recency-ends, recent-at, rest-path, first-object}
use Rattle.lsa_list.proofs.recency.List.next.Goals as goal

pub link_of-requires : goal.link_of-requires
link_of-requires g c = (omega arith, (recency-ends c.args.region.now c.args.r (recent-at c.args.region.now c.requires.0 c.requires.1 c.args.r c.requires.2.recent)).1)

pub returns : goal.returns
returns g c = λ xs ys l. c.object.ensures ∙ ap object_of c.link_of.ensures ∙ first-object (link_of c.args.region.now) c.args.self.now (Obj c.args.r 1) ys (rest-path c.args.self.now c.args.region.now c.known.ensures.well xs ys c.args.r l)
