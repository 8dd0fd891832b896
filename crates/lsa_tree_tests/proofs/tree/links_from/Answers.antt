use Rattle.std.proofs.Common.{Some, sym, ap, ◌∙◌}
use Rattle.lsa_tree_tests.proofs.Walks.{entry-two, named-two}
use Rattle.lsa_tree_tests.proofs.tree.links_from.Goals as goal

pub loop-links-init : goal.loop-links-init
loop-links-init c = entry-two c.args._tree c.args.region.now c.requires.0 c.requires.1 c.args.r c.requires.2

pub loop-links-preserved : goal.loop-links-preserved
loop-links-preserved c = named-two c.args.region.now c.known.ensures.well c.loop-links.at c.in-Some-Obj.q c.in-Some-Obj.field (sym c.link_of.ensures ∙ c.in-Some-Obj.is ∙ ap (λ e. Some e) c.in-Some-Obj.field-0-is)
