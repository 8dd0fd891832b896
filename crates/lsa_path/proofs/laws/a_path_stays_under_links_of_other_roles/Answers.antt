use Rattle.lsa_path.specs.laws.Roles.{path-role, inserted-role, taken-role}
use Rattle.lsa_path.proofs.laws.a_path_stays_under_links_of_other_roles.Goals as goal

pub returns-clause-stays : goal.returns-clause-stays
returns-clause-stays c = λ v new role i o s refs f same here all p. path-role v new role i o s refs f same here all p

pub returns-clause-inserted : goal.returns-clause-inserted
returns-clause-inserted c = λ v new role a first second ins at_a at_first at_second at_mate e has. inserted-role v new role a first second ins at_a at_first at_second at_mate e has

pub returns-clause-taken : goal.returns-clause-taken
returns-clause-taken c = λ v new role first second out at_first at_second before behind e has. taken-role v new role first second out at_first at_second before behind e has
