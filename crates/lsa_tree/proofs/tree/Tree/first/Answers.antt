use Rattle.std.proofs.Common.{ap, ◌∙◌, arith}
use Rattle.lsa_tree.specs.Search.{first_entry}
use Rattle.lsa_tree.proofs.Walks.{outer-first, top-place}
use Rattle.lsa_tree.proofs.tree.Tree.first.Goals as goal

pub edge-requires : goal.edge-requires
edge-requires g c = (omega arith, top-place c.args.self.now c.args.region.now c.requires.0 c.requires.1)

pub returns : goal.returns
returns g c = λ refs h. c.edge.ensures.found (top-place c.args.self.now c.args.region.now refs h) ∙ outer-first h.form.0 ∙ ap first_entry h.form.4
