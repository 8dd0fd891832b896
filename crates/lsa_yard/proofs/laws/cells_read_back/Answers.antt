use Rattle.lsa_yard.specs.laws.Reading.{cells_in-spells}
use Rattle.lsa_yard.proofs.laws.cells_read_back.Goals as goal

pub returns : goal.returns
returns c = cells_in-spells
