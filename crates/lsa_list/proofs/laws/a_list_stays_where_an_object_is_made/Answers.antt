use Rattle.lsa_list.specs.laws.Lists.{list-added}
use Rattle.lsa_list.proofs.laws.a_list_stays_where_an_object_is_made.Goals as goal

pub returns : goal.returns
returns c = λ slots old new r kind bytes refs added l. list-added slots old new r kind bytes added refs l
