use Rattle.rc_units.proofs.Ending.{cleaned-ends, lost-ends}
use Rattle.rc_units.proofs.laws.chaining.a_unit_of_the_cleaner_leaves_less.Goals as goal

pub returns : goal.returns
returns c = record { with_room = cleaned-ends; without_room = lost-ends }
