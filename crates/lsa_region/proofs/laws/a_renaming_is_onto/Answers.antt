use Rattle.lsa_region.specs.laws.Names.{came}
use Rattle.lsa_region.proofs.laws.a_renaming_is_onto.Goals as goal

pub returns : goal.returns
returns c = λ old new names q renamed live. came old new names renamed q live
