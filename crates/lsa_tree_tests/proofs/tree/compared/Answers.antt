use Rattle.std.proofs.Common.{arith}
use Rattle.lsa_tree_tests.proofs.tree.compared.Goals as goal

pub returns : goal.returns
returns g c = c.find.ensures.bounded c.requires.0 10 c.requires.1 (omega (arith, c.requires.2))
