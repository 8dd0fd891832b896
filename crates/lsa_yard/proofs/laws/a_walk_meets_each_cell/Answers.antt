use Rattle.lsa_yard.specs.laws.Changes.{at-within, at-next}
use Rattle.lsa_yard.proofs.laws.a_walk_meets_each_cell.Goals as goal

pub returns-clause-within : goal.returns-clause-within
returns-clause-within c = at-within

pub returns-clause-next : goal.returns-clause-next
returns-clause-next c = at-next
