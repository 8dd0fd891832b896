use Rattle.std.proofs.Common.{arith}
use Rattle.rc_filler.proofs.Seen.{may-told}
use Rattle.rc_filler.proofs.rooms.may_be_filled.Goals as goal

pub may_fill-requires : goal.may_fill-requires
may_fill-requires g c = (omega arith, c.requires)

pub returns : goal.returns
returns g c = may-told c.args.chains.now c.args.s.now.chain c.args.s.now.pin c.may_fill.result c.requires c.may_fill.ensures
