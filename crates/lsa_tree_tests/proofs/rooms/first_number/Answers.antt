use Rattle.lsa_tree_tests.proofs.rooms.first_number.Goals as goal

pub number_under-requires : goal.number_under-requires
number_under-requires c = c.top_of.ensures c.in-Some.top c.in-Some.is
