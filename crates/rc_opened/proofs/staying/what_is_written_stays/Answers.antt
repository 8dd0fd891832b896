-- Where there is a snapshot its stream stays.
use Rattle.std.proofs.Common.{subst}
use Rattle.rc_opened.specs.Opened.{no_files}
use Rattle.rc_snapshots.specs.Seeing.{SeesAllOf}
use Rattle.rc_opened.specs.Written.{IsStreamOf, snap_in}
use Rattle.rc_opened.proofs.Still.{match_stays, some_stays}
use Rattle.rc_opened.proofs.staying.what_is_written_stays.Goals as goal

pub returns-clause-ready : goal.returns-clause-ready
returns-clause-ready g c = λ r changes m n is was now. some_stays _ _ r.stream (λ x e d.
    c.a_snapshots_stream_stays.ensures.ready_alike x.known.snap x changes m n no_files no_files (subst (λ q. IsStreamOf (snap_in q) q) e is) (subst (λ q. SeesAllOf changes m (snap_in q)) e was) (subst (λ q. SeesAllOf changes n (snap_in q)) e now) d)

pub returns-clause-seen : goal.returns-clause-seen
returns-clause-seen g c = λ r changes m n t is was now. match_stays _ _ _ r.stream (λ x e d.
    c.a_snapshots_stream_stays.ensures.seen_alike x.known.snap x changes m n no_files no_files t (subst (λ q. IsStreamOf (snap_in q) q) e is) (subst (λ q. SeesAllOf changes m (snap_in q)) e was) (subst (λ q. SeesAllOf changes n (snap_in q)) e now) d)
