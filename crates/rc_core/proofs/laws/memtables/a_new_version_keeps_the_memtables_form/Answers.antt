use Rattle.rc_core.specs.laws.MemtableChains.{added-memtable}
use Rattle.rc_core.proofs.laws.memtables.a_new_version_keeps_the_memtables_form.Goals as goal

pub returns : goal.returns
returns c = added-memtable
