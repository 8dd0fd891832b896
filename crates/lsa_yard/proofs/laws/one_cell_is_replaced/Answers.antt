use Rattle.lsa_yard.specs.laws.Changes.{replaced-here, replaced-others, replaced-extent, replaced-sums}
use Rattle.lsa_yard.proofs.laws.one_cell_is_replaced.Goals as goal

pub returns-clause-here : goal.returns-clause-here
returns-clause-here c = replaced-here

pub returns-clause-others : goal.returns-clause-others
returns-clause-others c = replaced-others

pub returns-clause-long : goal.returns-clause-long
returns-clause-long c = replaced-extent

pub returns-clause-sums : goal.returns-clause-sums
returns-clause-sums c = replaced-sums
