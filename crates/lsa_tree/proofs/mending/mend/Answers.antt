use Rattle.std.proofs.Common.{arith}
use Rattle.lsa_tree.proofs.Mended.{steep-x}
use Rattle.lsa_tree.proofs.mending.mend.Goals as goal

pub balance-requires : goal.balance-requires
balance-requires g c = (omega arith, steep-x c.args.region.now c.known.ensures.well c.args.side c.args.at c.args.p c.args.x c.requires)
