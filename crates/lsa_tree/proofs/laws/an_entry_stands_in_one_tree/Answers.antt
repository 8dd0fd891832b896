use Rattle.lsa_tree.specs.laws.Trees.{trees-same}
use Rattle.lsa_tree.proofs.laws.an_entry_stands_in_one_tree.Goals as goal

pub returns : goal.returns
returns c = λ tree other v xs ys r well h k on too. trees-same v well tree other xs ys h k r on too
