use Rattle.lsa_list.specs.laws.Lists.{list-unlinked, list-written}
use Rattle.lsa_list.proofs.laws.a_list_stays_where_no_link_changes.Goals as goal

pub returns-clause-stays : goal.returns-clause-stays
returns-clause-stays c = λ slots old new refs l same kinds. list-unlinked slots old new refs l same kinds

pub returns-clause-written : goal.returns-clause-written
returns-clause-written c = λ slots old new refs r bytes l links here others. list-written slots old new refs r bytes links here others l
