use Rattle.std.proofs.Common.{◌∷◌, ◌++◌}
use Rattle.lsa_shape.specs.Members.{once-split}
use Rattle.lsa_tree.specs.laws.Trees.{tree-pairs, tree-few}
use Rattle.lsa_tree.proofs.laws.a_tree_has_each_entry_once.Goals as goal

pub returns-clause-once : goal.returns-clause-once
returns-clause-once c = λ tree v refs well h. tree-pairs tree v well refs h

pub returns-clause-beside : goal.returns-clause-beside
returns-clause-beside c = λ tree v front back r well h. once-split front back r (tree-pairs tree v well (front ++ (r ∷ back)) h)

pub returns-clause-few : goal.returns-clause-few
returns-clause-few c = λ tree v refs well summed h. tree-few tree v well summed refs h
