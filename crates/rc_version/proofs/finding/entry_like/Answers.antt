use Rattle.std.proofs.Common.{arith}
use Rattle.rc_version.proofs.finding.entry_like.Goals as goal

pub find_like-requires : goal.find_like-requires
find_like-requires g c = (omega arith, ((c.requires.version.0, c.requires.version.2.tree), c.requires.entry))

pub returns : goal.returns
returns g c = λ refs d x h at. c.here.ensures c.args.region.now c.args.v refs d x h (c.find_like.ensures refs x h.tree at)
