use Rattle.std.proofs.Common.{arith}
use Rattle.lsa_tree.proofs.tree.Tree.next.Goals as goal

pub neighbour-requires : goal.neighbour-requires
neighbour-requires g c = (omega arith, (c.args.self.now, c.requires.0, c.requires.1, c.requires.2))

pub returns : goal.returns
returns g c = λ front back h. c.neighbour.ensures c.args.self.now front back h
