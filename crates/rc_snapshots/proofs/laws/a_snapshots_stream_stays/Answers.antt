use Rattle.rc_snapshots.proofs.Ready.{alike-ready, alike-seen, stays-ready, stays-seen}
use Rattle.rc_snapshots.proofs.laws.a_snapshots_stream_stays.Goals as goal

pub returns-clause-ready : goal.returns-clause-ready
returns-clause-ready g c s r m n w v of pin versions kind is = stays-ready s m n w v versions kind r of pin is

pub returns-clause-seen : goal.returns-clause-seen
returns-clause-seen g c s r m n w v t of versions kind is = stays-seen s m n w v versions kind r of t is

pub returns-clause-ready_alike : goal.returns-clause-ready_alike
returns-clause-ready_alike g c s r changes m n w v of was is ready = alike-ready c.a_memtable_is_known_everywhere.ensures.known s changes m n was is w v r of ready

pub returns-clause-seen_alike : goal.returns-clause-seen_alike
returns-clause-seen_alike g c s r changes m n w v t of was is seen = alike-seen c.a_memtable_is_known_everywhere.ensures.known s changes m n was is w v r of t seen
