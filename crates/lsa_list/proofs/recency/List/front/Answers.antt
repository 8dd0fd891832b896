use Rattle.std.proofs.Common.{ap, ◌∙◌, arith}
use Rattle.lsa_region.specs.declared.end.End.TheVariants.{Slot}
use Rattle.lsa_region.specs.Region.{link_of}
use Rattle.lsa_list.specs.calls.Recency.{object_of}
use Rattle.lsa_list.specs.laws.Lists.{start-there, first-object}
use Rattle.lsa_list.proofs.recency.List.front.Goals as goal

pub root-requires : goal.root-requires
root-requires g c = (omega arith, start-there c.args.region.now c.known.ensures.well (Slot c.args.self.now.front) c.requires.0 (Slot c.args.self.now.back) c.requires.1.path)

pub returns : goal.returns
returns g c = λ xs l. c.object.ensures ∙ ap object_of c.root.ensures ∙ first-object (link_of c.args.region.now) c.args.self.now (Slot c.args.self.now.front) xs l.path
