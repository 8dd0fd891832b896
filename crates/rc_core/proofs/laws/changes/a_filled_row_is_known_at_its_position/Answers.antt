use Rattle.rc_core.specs.laws.Spots.{fill_row-there, fill_row-elsewhere}
use Rattle.rc_core.proofs.laws.changes.a_filled_row_is_known_at_its_position.Goals as goal

pub returns : goal.returns
returns c = record { there = fill_row-there; elsewhere = fill_row-elsewhere }
