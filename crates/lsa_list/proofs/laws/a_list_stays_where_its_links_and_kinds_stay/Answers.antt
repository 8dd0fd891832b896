use Rattle.lsa_list.specs.laws.Lists.{list-stays}
use Rattle.lsa_list.proofs.laws.a_list_stays_where_its_links_and_kinds_stay.Goals as goal

pub returns : goal.returns
returns c = λ slots old new refs l here all kinds. list-stays slots old new refs l here all kinds
