use Rattle.lsa_list.specs.laws.Lists.{path-elsewhere}
use Rattle.lsa_list.proofs.laws.a_path_elsewhere_stays_beside_a_list.Goals as goal

pub returns : goal.returns
returns c = λ slots old new i o s refs f same far all p. path-elsewhere slots old new i o s refs f same far all p
