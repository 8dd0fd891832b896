use Rattle.std.proofs.Common.{arith}
use Rattle.rc_position.specs.Position.{row_pos}
use Rattle.rc_version.proofs.finding.entry_at_key.Goals as goal

pub locate_key-requires : goal.locate_key-requires
locate_key-requires g c = (omega arith, (c.requires.0, c.requires.2.tree))

pub returns : goal.returns
returns g c = λ refs d h. c.here.ensures c.args.region.now c.args.v refs d (row_pos c.args.key.now) h (c.locate_key.ensures refs h.tree)
