use Rattle.rc_core.specs.laws.Freeing.{entry-freed-memtable, statics-freed-memtable, version-freed-memtable}
use Rattle.rc_core.proofs.laws.pinning.a_freed_object_keeps_the_memtables_form.Goals as goal

pub returns : goal.returns
returns c = record { entry = entry-freed-memtable; statics = statics-freed-memtable; version = version-freed-memtable }
