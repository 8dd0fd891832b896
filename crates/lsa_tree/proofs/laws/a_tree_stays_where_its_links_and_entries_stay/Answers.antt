use Rattle.lsa_tree.specs.laws.Trees.{tree-linked, loose-read}
use Rattle.lsa_tree.proofs.laws.a_tree_stays_where_its_links_and_entries_stay.Goals as goal

pub returns-clause-tree : goal.returns-clause-tree
returns-clause-tree c = λ tree old new refs h top here same links. tree-linked tree old new refs top here same links h

pub returns-clause-loose : goal.returns-clause-loose
returns-clause-loose c = λ old new r h same links. loose-read old new r same links h
