use Rattle.lsa_tree_tests.specs.Walking.{IsTreeEntry}
use Rattle.lsa_tree_tests.proofs.tree.leads_back.Given as goal

abbrev pub invariant-loop-number : goal.invariant-loop-number
invariant-loop-number l = IsTreeEntry l.tree l.region l.found
