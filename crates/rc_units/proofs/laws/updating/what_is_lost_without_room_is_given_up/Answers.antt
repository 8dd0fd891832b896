use Rattle.rc_units.proofs.Losses.{lost-is, lost_from-version, lost-phase, positions-stay}
use Rattle.rc_units.proofs.laws.updating.what_is_lost_without_room_is_given_up.Goals as goal

pub returns : goal.returns
returns c = record { given_up = lost-is; version = lost_from-version; phase = lost-phase; positions = λ p v. positions-stay p v.entries }
