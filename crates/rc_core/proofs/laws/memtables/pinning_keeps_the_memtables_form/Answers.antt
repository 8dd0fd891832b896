use Rattle.rc_core.specs.laws.MemtableChains.{released-memtable, snapshot-memtable, detached-memtable}
use Rattle.rc_core.proofs.laws.memtables.pinning_keeps_the_memtables_form.Goals as goal

pub returns : goal.returns
returns c = record { pinned = snapshot-memtable; released = released-memtable; detached = detached-memtable }
