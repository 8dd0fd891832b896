-- What is held of both stays with them.
use Rattle.rc_opened.proofs.Still.{sought}
use Rattle.rc_opened.proofs.staying.a_merge_stays.Goals as goal

pub returns : goal.returns
returns g c = λ m h k w v s ours theirs d. sought g.A.Frags.seen g.B.Frags.seen m h w k v ours theirs s d
