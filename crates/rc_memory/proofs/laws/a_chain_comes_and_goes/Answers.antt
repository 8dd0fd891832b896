use Rattle.rc_memory.specs.laws.Opened.{empty-at, held-closed, held-opened}
use Rattle.rc_memory.proofs.laws.a_chain_comes_and_goes.Goals as goal

pub returns-clause-opened : goal.returns-clause-opened
returns-clause-opened c = λ slots old new registry counts m id root kind h added same well free. held-opened slots old new registry counts m h added.links same well id root kind added free

pub returns-clause-closed : goal.returns-clause-closed
returns-clause-closed c = λ slots old new registry counts m id root h gone same well there. held-closed slots old new registry counts m h gone.links same well id root gone there

pub returns-clause-empty : goal.returns-clause-empty
returns-clause-empty c = λ slots v registry counts m id k h there none. empty-at slots v registry counts m h id k there none
