use Rattle.rc_memory.specs.laws.Listed.{held-pushed, held-taken, held-touched}
use Rattle.rc_memory.proofs.laws.the_list_may_change.Goals as goal

pub returns-clause-pushed : goal.returns-clause-pushed
returns-clause-pushed c = λ slots old new registry counts m r w h elsewhere objects well here list unset. held-pushed slots old new registry counts m h elsewhere objects well r w here list unset

pub returns-clause-taken : goal.returns-clause-taken
returns-clause-taken c = λ slots old new registry counts m r front w back h elsewhere objects well is here list first second unset. held-taken slots old new registry counts m h elsewhere objects well r front w back is here list first second unset

pub returns-clause-touched : goal.returns-clause-touched
returns-clause-touched c = λ slots old new registry counts m r front w back h elsewhere objects well is here list unset. held-touched slots old new registry counts m h elsewhere objects well r front w back is here list unset
