use Rattle.lsa_shape.specs.laws.Hanging.{hangs-apart}
use Rattle.lsa_shape.specs.laws.Reading.{inorder-once}
use Rattle.lsa_shape.proofs.laws.a_tree_has_each_object_once.Goals as goal

pub returns-clause-once : goal.returns-clause-once
returns-clause-once c = λ named a s well h clear. inorder-once named well a s h clear

pub returns-clause-apart : goal.returns-clause-apart
returns-clause-apart c = λ named a b s t well ne h k clear other. hangs-apart named well a b s t ne h k clear other
