-- The entry is one of the tree, if there is one.
use Rattle.lsa_tree_tests.specs.Walking.{IsTreeEntry}
use Rattle.lsa_tree_tests.proofs.tree.most_links.Given as goal

abbrev pub invariant-loop-step : goal.invariant-loop-step
invariant-loop-step l = IsTreeEntry l.tree l.region l.found
