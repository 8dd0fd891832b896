use Rattle.lsa_tree_tests.proofs.Walks.{one-first}
use Rattle.lsa_tree_tests.proofs.tree.leads_through.Goals as goal

pub loop-number-init : goal.loop-number-init
loop-number-init c = one-first c.args.tree c.args.region.now c.requires.0 c.requires.1 c.first-found.result (c.first-found.ensures c.requires.0 c.requires.1)
