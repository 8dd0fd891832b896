use Rattle.lsa_region.specs.Region.{body}
use Rattle.lsa_tree.specs.laws.Trees.{tree-roles, loose-roles, version-same, same-read}
use Rattle.lsa_tree.proofs.laws.a_tree_stays_under_links_of_other_roles.Goals as goal

pub returns-clause-tree : goal.returns-clause-tree
returns-clause-tree c = λ tree old new refs h links same. tree-roles tree old new refs links (λ r k. version-same (body old r) (body new r) (same r) k) (λ r k. same-read (body old r) (body new r) (same r)) h

pub returns-clause-loose : goal.returns-clause-loose
returns-clause-loose c = λ old new r h links same. loose-roles old new r links (same-read (body old r) (body new r) (same r)) h
