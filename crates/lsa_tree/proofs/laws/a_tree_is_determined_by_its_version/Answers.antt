use Rattle.lsa_tree.specs.laws.Trees.{tree-once}
use Rattle.lsa_tree.proofs.laws.a_tree_is_determined_by_its_version.Goals as goal

pub returns : goal.returns
returns c = λ tree v xs ys h k. tree-once tree v xs ys h k
