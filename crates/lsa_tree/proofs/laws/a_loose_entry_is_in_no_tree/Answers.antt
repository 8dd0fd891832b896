use Rattle.lsa_tree.specs.laws.Trees.{loose-beside}
use Rattle.lsa_tree.proofs.laws.a_loose_entry_is_in_no_tree.Goals as goal

pub returns : goal.returns
returns c = λ tree v refs r well h loose. loose-beside tree v well refs r h loose
