use Rattle.lsa_yard.specs.laws.Changes.{at-middle, at-pushed}
use Rattle.lsa_yard.proofs.laws.one_more_cell_stands_behind.Goals as goal
use Rattle.std.proofs.Common.{[]}

pub returns-clause-here : goal.returns-clause-here
returns-clause-here c = λ cells cell. at-middle cells cell []

pub returns-clause-others : goal.returns-clause-others
returns-clause-others c = at-pushed
