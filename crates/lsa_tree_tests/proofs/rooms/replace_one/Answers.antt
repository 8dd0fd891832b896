use Rattle.lsa_tree_tests.proofs.rooms.replace_one.Goals as goal

pub replace_under-requires : goal.replace_under-requires
replace_under-requires c = c.top_of.ensures c.in-Some.top c.in-Some.is

pub returns-in-Some : goal.returns-in-Some
returns-in-Some c = (c.in-Some.top, c.replace_under.ensures)
