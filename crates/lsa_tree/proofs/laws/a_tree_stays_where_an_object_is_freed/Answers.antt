use Rattle.lsa_tree.specs.laws.Trees.{stands-same, tree-freed, loose-freed}
use Rattle.lsa_tree.proofs.laws.a_tree_stays_where_an_object_is_freed.Goals as goal

pub returns-clause-tree : goal.returns-clause-tree
returns-clause-tree c = λ tree old new refs r h freed beside apart. tree-freed tree old new r freed refs beside apart h

pub returns-clause-loose : goal.returns-clause-loose
returns-clause-loose c = λ old new q r h freed ne. loose-freed old new r freed q ne h

pub returns-clause-stands : goal.returns-clause-stands
returns-clause-stands c = λ old new q r x h freed ne. stands-same old new q x (freed.others q ne) h
