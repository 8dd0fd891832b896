use Rattle.std.proofs.Common.{◌∷◌, Some, ap, is_some}
use Rattle.lsa_region.specs.declared.end.End.TheVariants.{Obj}
use Rattle.lsa_path.specs.Path.{behind}
use Rattle.lsa_path.specs.laws.Paths.{path-rest, path-end}
use Rattle.lsa_path.specs.laws.Passing.{path-entered, path-left, path-apart}
use Rattle.lsa_path.proofs.laws.an_object_of_a_path_has_both_links_set.Goals as goal

pub returns-clause-toward : goal.returns-clause-toward
returns-clause-toward c = λ i o named s refs f well p r h. let a = path-entered i o named s refs f p r h in ap is_some (well.mates a.0 (Obj r i) a.1)

pub returns-clause-onward : goal.returns-clause-onward
returns-clause-onward c = λ i o named s f refs p r h. path-left i o named s refs f p r h

pub returns-clause-before : goal.returns-clause-before
returns-clause-before c = λ i o named s r xs ys f well p. well.mates (behind o s xs) (Obj r i) (path-rest i o named s xs (r ∷ ys) f p).0

pub returns-clause-last : goal.returns-clause-last
returns-clause-last c = λ i o named s f refs well p. well.mates (behind o s refs) f (path-end i o named s refs (Some f) p)

pub returns-clause-apart : goal.returns-clause-apart
returns-clause-apart c = λ i o named s refs f differ well out p r h. path-apart i o differ named well s refs f out p r h
