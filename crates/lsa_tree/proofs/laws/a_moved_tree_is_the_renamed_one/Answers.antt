use Rattle.lsa_tree.specs.laws.Trees.{tree-renamed, loose-renamed, stands-renamed}
use Rattle.lsa_tree.proofs.laws.a_moved_tree_is_the_renamed_one.Goals as goal

pub returns-clause-tree : goal.returns-clause-tree
returns-clause-tree c = λ old new names tree refs renamed well h. tree-renamed old new names renamed well tree refs h

pub returns-clause-loose : goal.returns-clause-loose
returns-clause-loose c = λ old new names r renamed well h. loose-renamed old new names renamed well r h

pub returns-clause-stands : goal.returns-clause-stands
returns-clause-stands c = λ old new names r x renamed well h. stands-renamed old new names renamed well r x h
