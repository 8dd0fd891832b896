-- By the form of the reader.
use Rattle.rc_paging.proofs.OfForms.{form_stays}
use Rattle.rc_paging.proofs.laws.what_is_left_to_a_reader_stays.Goals as goal

pub returns : goal.returns
returns g c = form_stays _ c.what_is_left_stays_where_the_snapshots_see_the_same_changes.ensures g.row.S c.what_is_left_stays.ensures.lines
