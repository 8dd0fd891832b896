use Rattle.rc_units.proofs.Updates.{unit-is, unit-placed}
use Rattle.rc_units.proofs.Cuts.{updated-version}
use Rattle.rc_units.proofs.Chaining.{updated-phase}
use Rattle.rc_units.proofs.laws.updating.an_updates_unit_is_a_unit.Goals as goal

pub returns : goal.returns
returns c = record { unit = unit-is; at_place = unit-placed; version = updated-version; phase = updated-phase }
