use Rattle.lsa_path.specs.laws.Beside.{path-aside}
use Rattle.lsa_path.proofs.laws.a_path_stays_where_objects_change_places_in_other_links.Goals as goal

pub returns : goal.returns
returns c = λ j k i o old new s refs f same ij ik oj ok out out' p. path-aside j k old new same i o ij ik oj ok s refs f out out' p
