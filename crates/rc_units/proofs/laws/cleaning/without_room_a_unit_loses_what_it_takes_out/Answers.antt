use Rattle.std.proofs.Common.{refl}
use Rattle.rc_units.proofs.Units.{first-lost, lost-versions}
use Rattle.rc_units.proofs.laws.cleaning.without_room_a_unit_loses_what_it_takes_out.Goals as goal

pub returns : goal.returns
returns c = record { memtable = λ v w. refl; lost = first-lost; versions = λ kind v w i j. lost-versions v w i j kind }
