use Rattle.lsa_tree_tests.proofs.Walks.{home-freed}
use Rattle.lsa_tree_tests.proofs.tree.free.Goals as goal

pub returns : goal.returns
returns c = home-freed c.args._slot c.args.region.now c.free_obj.new.self c.args.r c.known.ensures.well c.free_obj.ensures.freed c.requires.loose c.requires.home
