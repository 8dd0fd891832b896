use Rattle.rc_core.specs.laws.Opening.{fresh-memtable, fresh-form}
use Rattle.rc_core.proofs.laws.memtables.a_new_memtable_has_the_form.Goals as goal

pub returns : goal.returns
returns c = record { memtable = fresh-memtable; form = fresh-form }
