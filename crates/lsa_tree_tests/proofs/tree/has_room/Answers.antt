use Rattle.lsa_tree_tests.proofs.Walks.{home-renamed}
use Rattle.lsa_tree_tests.proofs.tree.has_room.Goals as goal

pub returns-in-Ready-clause-home : goal.returns-in-Ready-clause-home
returns-in-Ready-clause-home c = let n = c.ensure.ensures.renamed in home-renamed c.args._slot c.args.region.now c.ensure.new.region n.0 c.known.ensures.well n.1 c.requires

pub returns-in-Ready-clause-room : goal.returns-in-Ready-clause-room
returns-in-Ready-clause-room c = λ _. c.ensure.ensures.ready c.in-Ready.is

pub returns-in-Full-clause-home : goal.returns-in-Full-clause-home
returns-in-Full-clause-home c = let n = c.ensure.ensures.renamed in home-renamed c.args._slot c.args.region.now c.ensure.new.region n.0 c.known.ensures.well n.1 c.requires
