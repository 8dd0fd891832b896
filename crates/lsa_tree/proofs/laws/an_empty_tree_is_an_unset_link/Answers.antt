use Rattle.lsa_tree.specs.laws.Trees.{empty-unset, tree-empty}
use Rattle.lsa_tree.proofs.laws.an_empty_tree_is_an_unset_link.Goals as goal

pub returns : goal.returns
returns c = λ tree v top. (empty-unset tree v, tree-empty tree v top)
