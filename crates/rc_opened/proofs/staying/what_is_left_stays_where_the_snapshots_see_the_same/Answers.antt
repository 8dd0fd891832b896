-- What they saw says what the same changes say.
use Rattle.rc_opened.specs.Opened.{snaps_of}
use Rattle.rc_opened.proofs.staying.what_is_left_stays_where_the_snapshots_see_the_same.Goals as goal

pub returns : goal.returns
returns g c = λ o m n lines same. c.what_is_left_stays_where_the_snapshots_see_the_same_changes.ensures o m n lines (c.a_snapshot_sees_what_it_saw.ensures.both_changes m n (snaps_of o) same)
