use Rattle.rc_core.specs.laws.Memtables.{row-memtable, range-memtable, pt-memtable, statics-memtable}
use Rattle.rc_core.proofs.laws.memtables.a_write_keeps_the_memtables_form.Goals as goal

pub returns : goal.returns
returns c = record { row = row-memtable; range = range-memtable; head = pt-memtable; statics = statics-memtable }
