use Rattle.rc_memtable.proofs.Leaving.{alike-leaves, beside-leaves, released-leaves}
use Rattle.rc_memtable.proofs.laws.what_leaves_a_memtables_chains_leaves_its_writes.Goals as goal

pub returns : goal.returns
returns c = record { beside = beside-leaves; released = released-leaves; alike = alike-leaves }
