use Rattle.rc_position.specs.laws.Bounds.{row_pos-next}
use Rattle.rc_position.proofs.laws.nothing_stands_right_after_a_row.Goals as goal

pub returns : goal.returns
returns c = row_pos-next
