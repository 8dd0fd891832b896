use Rattle.rc_units.proofs.Cleaning.{statics-merged, entry-merged, end-merged, emptied-silent}
use Rattle.rc_units.proofs.laws.cleaning.each_sort_of_unit_puts_states_down.Goals as goal

pub returns : goal.returns
returns c = record { statics = statics-merged; entry = entry-merged; end_dummy = end-merged; silent = emptied-silent }
