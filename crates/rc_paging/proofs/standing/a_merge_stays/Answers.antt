-- What is held of both stays with them.
use Rattle.rc_paging.proofs.Still.{sought}
use Rattle.rc_paging.proofs.standing.a_merge_stays.Goals as goal

pub returns-clause-ready : goal.returns-clause-ready
returns-clause-ready g c = λ m h k w v ours theirs d. ((ours d.0.0, theirs d.0.1), d.1, d.2)

pub returns-clause-seen : goal.returns-clause-seen
returns-clause-seen g c = λ m h k w v s ours theirs d. sought g.A.Frags.seen g.B.Frags.seen m h w k v ours theirs s d
