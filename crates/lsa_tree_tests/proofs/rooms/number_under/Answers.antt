use Rattle.lsa_tree_tests.proofs.rooms.number_under.Goals as goal

pub number_of-requires : goal.number_of-requires
number_of-requires c = c.first_of.ensures c.in-Some.r c.in-Some.is
