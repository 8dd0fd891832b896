use Rattle.lsa_path.specs.laws.Passing.{path-back, path-back_before}
use Rattle.lsa_path.proofs.laws.a_path_leads_back.Goals as goal

pub returns-clause-whole : goal.returns-clause-whole
returns-clause-whole c = λ i o named s f refs well p. path-back i o named well s refs f p

pub returns-clause-before : goal.returns-clause-before
returns-clause-before c = λ i o named s r xs ys f well p. path-back_before i o named well s xs ys r f p
