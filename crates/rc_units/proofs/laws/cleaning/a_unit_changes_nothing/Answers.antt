use Rattle.rc_units.proofs.Units.{unit-seen}
use Rattle.rc_units.proofs.laws.cleaning.a_unit_changes_nothing.Goals as goal

pub returns : goal.returns
returns c = unit-seen
