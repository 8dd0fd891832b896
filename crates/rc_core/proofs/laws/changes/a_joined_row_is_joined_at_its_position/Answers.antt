use Rattle.rc_core.specs.laws.Spots.{join_row-there, join_row-elsewhere}
use Rattle.rc_core.proofs.laws.changes.a_joined_row_is_joined_at_its_position.Goals as goal

pub returns : goal.returns
returns c = record { there = join_row-there; elsewhere = join_row-elsewhere }
