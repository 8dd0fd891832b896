use Rattle.std.proofs.Common.{arith}
use Rattle.rc_version_walk.proofs.Pairs.{slot-there}
use Rattle.rc_version_walk.proofs.homes.version_in.Goals as goal

pub root-requires : goal.root-requires
root-requires c = (omega arith, slot-there c.args.this c.args._other c.args.region.now c.requires.0 c.requires.1 c.requires.2 c.known.ensures.well)
