use Rattle.rc_core.specs.laws.Units.{unit-continuous}
use Rattle.rc_core.specs.laws.Placed.{unit-at-place}
use Rattle.rc_core.proofs.laws.updating.a_unit_keeps_the_version_under_update.Goals as goal

pub returns : goal.returns
returns c = record {
  continuous = λ writes all change older before now p q u ok k src. unit-continuous writes all change older before now p q u ok k src;
  at_place = unit-at-place;
}
