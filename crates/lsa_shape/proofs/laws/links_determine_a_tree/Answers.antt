use Rattle.lsa_shape.specs.laws.Hanging.{hangs-determined}
use Rattle.lsa_shape.proofs.laws.links_determine_a_tree.Goals as goal

pub returns : goal.returns
returns c = hangs-determined
