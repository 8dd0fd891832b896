use Rattle.std.proofs.Common.{arith}
use Rattle.lsa_tree_tests.proofs.rooms.replace_under.Goals as goal

pub replace_first-requires : goal.replace_first-requires
replace_first-requires c = record { room = omega (arith, c.spare.ensures, c.if-spare-lt88.false); stands = c.first_of.ensures c.in-Some.r c.in-Some.is }
