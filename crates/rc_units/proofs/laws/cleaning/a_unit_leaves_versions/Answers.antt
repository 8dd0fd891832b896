use Rattle.rc_units.proofs.Units.{cleaned-versions}
use Rattle.rc_units.proofs.laws.cleaning.a_unit_leaves_versions.Goals as goal

pub returns : goal.returns
returns c = cleaned-versions
