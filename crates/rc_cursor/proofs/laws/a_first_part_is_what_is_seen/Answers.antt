use Rattle.rc_cursor.proofs.Parts.{part-seen}
use Rattle.rc_cursor.proofs.laws.a_first_part_is_what_is_seen.Goals as goal

pub returns : goal.returns
returns c = part-seen c.a_gap_is_seen_alike.ensures
