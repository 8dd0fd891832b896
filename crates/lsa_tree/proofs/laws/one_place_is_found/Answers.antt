use Rattle.lsa_tree.specs.laws.Orders.{belongs-once}
use Rattle.lsa_tree.specs.laws.Found.{found-once}
use Rattle.lsa_tree.proofs.laws.one_place_is_found.Goals as goal

pub returns-clause-found : goal.returns-clause-found
returns-clause-found c = λ tree v refs x p q well h k l. found-once tree v well refs x h p q k l

pub returns-clause-belongs : goal.returns-clause-belongs
returns-clause-belongs c = λ v x front back others rest e h k. belongs-once v front back others rest x e h k
