use Rattle.std.proofs.Common.{arith}
use Rattle.rc_version.proofs.finding.entry_at.Goals as goal

pub locate-requires : goal.locate-requires
locate-requires g c = (omega arith, (c.requires.0, c.requires.2.tree))

pub returns : goal.returns
returns g c = λ refs d h. c.here.ensures c.args.region.now c.args.v refs d c.args.x.now h (c.locate.ensures refs h.tree)
