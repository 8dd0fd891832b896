use Rattle.lsa_tree_tests.proofs.rooms.use_one.Goals as goal

pub use_under-requires : goal.use_under-requires
use_under-requires c = c.top_of.ensures c.in-Some.top c.in-Some.is
