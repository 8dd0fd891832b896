use Rattle.lsa_path.specs.laws.Paths.{path-everywhere}
use Rattle.lsa_path.proofs.laws.a_path_stays_where_no_link_changes.Goals as goal

pub returns : goal.returns
returns c = λ i o old new s refs f same p. path-everywhere i o old new s refs f same p
