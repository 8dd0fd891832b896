use Rattle.lsa_yard.specs.laws.Changes.{at-apart, at-even}
use Rattle.lsa_yard.proofs.laws.cells_are_apart.Goals as goal

pub returns-clause-apart : goal.returns-clause-apart
returns-clause-apart c = at-apart

pub returns-clause-even : goal.returns-clause-even
returns-clause-even c = at-even
