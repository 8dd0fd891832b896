use Rattle.rc_version_walk.proofs.Pairs.{pair-moved}
use Rattle.rc_version_walk.proofs.homes.has_room.Goals as goal

pub returns-in-Ready-clause-pair : goal.returns-in-Ready-clause-pair
returns-in-Ready-clause-pair c = let n = c.ensure.ensures.renamed in pair-moved c.args._this c.args._other c.args.region.now c.ensure.new.region n.0 c.known.ensures.well c.ensure.ensures.well n.1 c.requires

pub returns-in-Ready-clause-room : goal.returns-in-Ready-clause-room
returns-in-Ready-clause-room c = λ _. c.ensure.ensures.ready c.in-Ready.is

pub returns-in-Full-clause-pair : goal.returns-in-Full-clause-pair
returns-in-Full-clause-pair c = let n = c.ensure.ensures.renamed in pair-moved c.args._this c.args._other c.args.region.now c.ensure.new.region n.0 c.known.ensures.well c.ensure.ensures.well n.1 c.requires
