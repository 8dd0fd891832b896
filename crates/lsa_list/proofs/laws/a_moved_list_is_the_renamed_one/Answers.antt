use Rattle.lsa_list.specs.laws.Lists.{list-renamed}
use Rattle.lsa_list.proofs.laws.a_moved_list_is_the_renamed_one.Goals as goal

pub returns : goal.returns
returns c = λ slots old new names refs renamed well l. list-renamed slots old new names renamed well refs l
