use Rattle.lsa_path.specs.laws.Paths.{path-same}
use Rattle.lsa_path.proofs.laws.a_path_stays_under_changes_elsewhere.Goals as goal

pub returns : goal.returns
returns c = λ i o old new s xs f here h p. path-same i o old new s xs f here h p
