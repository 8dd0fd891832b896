-- The end is there.
use Rattle.lsa_region.specs.Region.{IsEnd}
use Rattle.lsa_tree_tests.proofs.tree.links_from.Given as goal

abbrev pub invariant-loop-links : goal.invariant-loop-links
invariant-loop-links l = IsEnd l.region l.at
