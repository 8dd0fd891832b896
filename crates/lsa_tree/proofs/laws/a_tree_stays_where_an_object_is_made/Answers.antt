use Rattle.lsa_tree.specs.laws.Trees.{stands-added, tree-added, loose-added, loose-made}
use Rattle.lsa_tree.proofs.laws.a_tree_stays_where_an_object_is_made.Goals as goal

pub returns-clause-tree : goal.returns-clause-tree
returns-clause-tree c = λ tree old new refs r kind bytes h added. tree-added tree old new r kind bytes added refs h

pub returns-clause-others : goal.returns-clause-others
returns-clause-others c = λ old new q r kind bytes h added. loose-added old new r kind bytes added q h

pub returns-clause-loose : goal.returns-clause-loose
returns-clause-loose c = λ old new r kind bytes added h level. loose-made old new r kind bytes added h level

pub returns-clause-stands : goal.returns-clause-stands
returns-clause-stands c = λ old new q r kind bytes x h added. stands-added old new r kind bytes added q x h
