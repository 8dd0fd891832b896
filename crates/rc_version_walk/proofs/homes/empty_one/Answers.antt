use Rattle.rc_version_walk.proofs.Pairs.{pair-moved}
use Rattle.rc_version_walk.proofs.homes.empty_one.Goals as goal

pub returns : goal.returns
returns c = let n = c.compact_one.ensures.renamed in pair-moved c.args._this c.args._other c.args.region.now c.compact_one.new.region n.0 c.known.ensures.well c.compact_one.ensures.well n.1 c.requires
