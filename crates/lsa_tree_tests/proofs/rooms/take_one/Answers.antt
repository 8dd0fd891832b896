use Rattle.lsa_tree_tests.proofs.rooms.take_one.Goals as goal

pub take_under-requires : goal.take_under-requires
take_under-requires c = c.top_of.ensures c.in-Some.top c.in-Some.is

pub returns-in-Some : goal.returns-in-Some
returns-in-Some c = (c.in-Some.top, c.take_under.ensures)
