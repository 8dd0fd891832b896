use Rattle.lsa_list.specs.laws.Lists.{list-freed}
use Rattle.lsa_list.proofs.laws.a_list_stays_where_an_object_is_freed.Goals as goal

pub returns : goal.returns
returns c = λ slots old new r refs freed well unset l. list-freed old new r freed well unset slots refs l
