-- What one leaves the next one finds.
use Rattle.rc_paging.proofs.Leaving.{leaves_same, leaves_then}
use Rattle.rc_paging.proofs.laws.what_readers_leave_of_chains.Goals as goal

pub returns-clause-none : goal.returns-clause-none
returns-clause-none c = leaves_same

pub returns-clause-along : goal.returns-clause-along
returns-clause-along c = leaves_then

pub returns-clause-see : goal.returns-clause-see
returns-clause-see c = λ old new s leaves changes sees. c.a_snapshot_sees_what_it_saw.ensures.sees changes old new s sees (leaves.memtables s (record { pin = sees.pin; kind = sees.kind }))
