use Rattle.lsa_shape.specs.laws.Rotations.{hangs-turned, turned-stays}
use Rattle.lsa_shape.specs.laws.Sides.{inorder-turned}
use Rattle.lsa_shape.proofs.laws.two_exchanges_turn_a_tree.Goals as goal

pub returns-clause-hangs : goal.returns-clause-hangs
returns-clause-hangs c = λ old mid new flank a x y l m t well first second h clear. hangs-turned old mid new well flank a x y first second l m t h clear

pub returns-clause-stays : goal.returns-clause-stays
returns-clause-stays c = λ old mid new flank a x y l m t well first second h clear. turned-stays old mid new well flank a x y first second l m t h clear

pub returns-clause-order : goal.returns-clause-order
returns-clause-order c = λ flank x y l m t. inorder-turned flank l x m y t
