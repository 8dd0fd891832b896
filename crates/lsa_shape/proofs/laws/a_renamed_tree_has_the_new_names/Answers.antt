use Rattle.lsa_shape.specs.laws.Hanging.{hangs-mapped, inorder-by}
use Rattle.lsa_shape.proofs.laws.a_renamed_tree_has_the_new_names.Goals as goal

pub returns-clause-hangs : goal.returns-clause-hangs
returns-clause-hangs c = hangs-mapped

pub returns-clause-order : goal.returns-clause-order
returns-clause-order c = inorder-by
