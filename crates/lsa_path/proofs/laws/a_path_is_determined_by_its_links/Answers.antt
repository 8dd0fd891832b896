use Rattle.lsa_path.specs.laws.Passing.{path-determined}
use Rattle.lsa_path.proofs.laws.a_path_is_determined_by_its_links.Goals as goal

pub returns : goal.returns
returns c = λ i o named s xs ys f g free free' p q. path-determined i o named s xs ys f g free free' p q
