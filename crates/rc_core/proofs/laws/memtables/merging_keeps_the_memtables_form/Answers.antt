use Rattle.rc_core.specs.laws.MemtableChains.{merged-memtable, dropped-memtable}
use Rattle.rc_core.proofs.laws.memtables.merging_keeps_the_memtables_form.Goals as goal

pub returns : goal.returns
returns c = record { merged = merged-memtable; dropped = dropped-memtable }
