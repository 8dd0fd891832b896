use Rattle.lsa_list.specs.laws.Lists.{list-exchanged}
use Rattle.lsa_list.proofs.laws.a_list_stays_under_an_exchange_elsewhere.Goals as goal

pub returns : goal.returns
returns c = λ slots old new refs a b l ex same far far'. list-exchanged slots old new refs l a b far far' ex same
