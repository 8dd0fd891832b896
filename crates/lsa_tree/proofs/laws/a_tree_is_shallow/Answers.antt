use Rattle.lsa_tree.specs.laws.Trees.{tree-shallow}
use Rattle.lsa_tree.proofs.laws.a_tree_is_shallow.Goals as goal

pub returns : goal.returns
returns c = λ tree v refs r well h on. tree-shallow tree v well refs r h on
