use Rattle.std.proofs.Common.{arith}
use Rattle.lsa_tree_tests.proofs.rooms.new_entry.Goals as goal

pub add_entry-requires : goal.add_entry-requires
add_entry-requires c = record { room = omega (arith, c.spare.ensures, c.if-spare-lt88.false); stands = c.top_of.ensures c.in-Some.top c.in-Some.is }

pub returns-in-Some : goal.returns-in-Some
returns-in-Some c = (c.in-Some.top, c.add_entry.ensures)
