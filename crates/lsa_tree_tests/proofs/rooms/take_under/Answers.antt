use Rattle.lsa_tree_tests.proofs.rooms.take_under.Goals as goal

pub take_first-requires : goal.take_first-requires
take_first-requires c = c.first_of.ensures c.in-Some.r c.in-Some.is
