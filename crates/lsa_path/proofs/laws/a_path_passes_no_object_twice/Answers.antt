use Rattle.lsa_path.specs.laws.Passing.{path-once, path-beside}
use Rattle.lsa_path.proofs.laws.a_path_passes_no_object_twice.Goals as goal

pub returns-clause-once : goal.returns-clause-once
returns-clause-once c = λ i o named s refs f differ well out p. path-once i o differ named well s refs f out p

pub returns-clause-beside : goal.returns-clause-beside
returns-clause-beside c = λ i o named s r xs ys f differ well out p h. path-beside i o differ named well s xs ys r f out p h
