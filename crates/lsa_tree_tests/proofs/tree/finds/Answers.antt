use Rattle.lsa_tree_tests.proofs.tree.finds.Goals as goal

pub told-by_key-requires : goal.told-by_key-requires
told-by_key-requires c = (c.requires.0, _, c.requires.1, c.locate_key.ensures c.requires.0 c.requires.1)

pub told-by_position-requires : goal.told-by_position-requires
told-by_position-requires c = (c.requires.0, _, c.requires.1, c.locate.ensures c.requires.0 c.requires.1)
