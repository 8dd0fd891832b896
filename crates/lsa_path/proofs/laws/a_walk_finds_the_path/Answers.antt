use Rattle.lsa_path.specs.laws.Passing.{path-walked}
use Rattle.lsa_path.proofs.laws.a_walk_finds_the_path.Goals as goal

pub returns : goal.returns
returns c = λ most i o named s refs f le free p. path-walked i o named most s refs f le free p
