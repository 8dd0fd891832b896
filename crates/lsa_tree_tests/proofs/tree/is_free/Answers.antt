use Rattle.lsa_tree_tests.proofs.Walks.{free-of}
use Rattle.lsa_tree_tests.proofs.tree.is_free.Goals as goal

pub returns-then-less : goal.returns-then-less
returns-then-less c = λ more field. free-of c.args.region.now c.args.r c.known.ensures.well c.requires (c.is_unset-less.ensures c.if-less.true) (c.is_unset-more.ensures more) field
