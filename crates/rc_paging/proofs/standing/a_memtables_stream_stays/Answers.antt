-- Its snapshot is there still.
use Rattle.rc_paging.proofs.Still.{stays_of}
use Rattle.rc_paging.proofs.standing.a_memtables_stream_stays.Goals as goal

pub returns-clause-ready : goal.returns-clause-ready
returns-clause-ready g c = λ r m n w v same d. (stays_of r m n same d.0, c.a_snapshots_stream_stays.ensures.ready r.stream.known.snap r.stream m n w v d.0.of same.pin same.versions same.kind d.1)

pub returns-clause-seen : goal.returns-clause-seen
returns-clause-seen g c = λ r m n w v s same d. (stays_of r m n same d.0, c.a_snapshots_stream_stays.ensures.seen r.stream.known.snap r.stream m n w v s d.0.of same.versions same.kind d.1)
