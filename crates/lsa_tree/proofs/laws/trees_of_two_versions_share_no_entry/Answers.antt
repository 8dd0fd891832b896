use Rattle.lsa_tree.specs.laws.Trees.{trees-apart}
use Rattle.lsa_tree.proofs.laws.trees_of_two_versions_share_no_entry.Goals as goal

pub returns : goal.returns
returns c = λ tree other v xs ys r well ne h k. trees-apart v well tree other xs ys ne h k r
