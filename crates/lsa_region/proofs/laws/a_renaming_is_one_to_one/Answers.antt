use Rattle.lsa_region.specs.laws.Names.{one-to-one}
use Rattle.lsa_region.proofs.laws.a_renaming_is_one_to_one.Goals as goal

pub returns : goal.returns
returns c = λ old new names r q renamed live other same. one-to-one old new names renamed r q live other same
