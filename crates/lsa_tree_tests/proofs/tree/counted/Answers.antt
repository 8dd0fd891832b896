use Rattle.lsa_tree_tests.proofs.tree.counted.Goals as goal

pub told-requires : goal.told-requires
told-requires g c = let held = c.tree_of-tree.ensures in (held.0, _, held.1.holds, c.find.ensures.found held.0 held.1.holds)
