use Rattle.lsa_list.specs.laws.Lists.{list-roles, list-inserted, list-taken}
use Rattle.lsa_list.proofs.laws.a_list_stays_under_links_of_other_roles.Goals as goal

pub returns-clause-stays : goal.returns-clause-stays
returns-clause-stays c = λ slots old new refs l here same kinds. list-roles slots old new refs l here same kinds

pub returns-clause-inserted : goal.returns-clause-inserted
returns-clause-inserted c = λ slots old new refs a first second l ins same far_a far_1 far_2 far_m. list-inserted slots old new refs l a first second far_a far_1 far_2 far_m ins same

pub returns-clause-taken : goal.returns-clause-taken
returns-clause-taken c = λ slots old new refs first second l out same far_1 far_2 far_m far_n. list-taken slots old new refs l first second far_1 far_2 far_m far_n out same
