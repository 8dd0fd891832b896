use Rattle.rc_units.proofs.Cleaning.{merged-before, merged-said, merged-behind}
use Rattle.rc_units.proofs.laws.cleaning.a_merged_entry_goes_under_up_to_its_successor.Goals as goal

pub returns : goal.returns
returns c = record { newer = merged-before; older = merged-said; behind = merged-behind }
