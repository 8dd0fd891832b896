use Rattle.std.proofs.Common.{arith}
use Rattle.lsa_shape.specs.laws.Depths.{shallow, way-short, size-listed}
use Rattle.lsa_shape.specs.laws.Reading.{objects-long, way-leads}
use Rattle.lsa_shape.proofs.laws.a_balanced_tree_is_shallow.Goals as goal

pub returns-clause-shallow : goal.returns-clause-shallow
returns-clause-shallow c = λ lean d s n level few. shallow lean d s n level (omega (arith, few, size-listed s))

pub returns-clause-way : goal.returns-clause-way
returns-clause-way c = λ lean way h n around. let w = way-short lean way h n around in omega (arith, w, objects-long way)

pub returns-clause-leads : goal.returns-clause-leads
returns-clause-leads c = λ named start way l t r well h. way-leads named well start way l t r h
