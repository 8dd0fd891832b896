use Rattle.lsa_tree_tests.proofs.Walks.{one-first}
use Rattle.lsa_tree_tests.proofs.tree.most_links.Goals as goal

pub loop-step-init : goal.loop-step-init
loop-step-init c = let held = c.tree_of-tree.ensures.1 in one-first c.tree_of-tree.result c.args.region.now c.tree_of-tree.ensures.0 held.holds c.first-found.result (c.first-found.ensures c.tree_of-tree.ensures.0 held.holds)
