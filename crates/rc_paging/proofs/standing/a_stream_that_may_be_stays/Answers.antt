-- By cases of whether there is one.
use Rattle.rc_paging.proofs.Still.{match_stays, some_stays}
use Rattle.rc_paging.proofs.standing.a_stream_that_may_be_stays.Goals as goal

pub returns-clause-ready : goal.returns-clause-ready
returns-clause-ready g c = λ r h k w v stays. some_stays _ _ r.stream stays

pub returns-clause-seen : goal.returns-clause-seen
returns-clause-seen g c = λ r h k w v s stays. match_stays _ _ _ r.stream stays
