use Rattle.rc_cursor.proofs.Taken.{taken-kind, taken-pin, taken-versions}
use Rattle.rc_cursor.proofs.laws.a_taken_snapshot_is_there.Goals as goal

pub returns : goal.returns
returns c = record {
  pin = taken-pin c.a_snapshots_number_stays.ensures.given;
  versions = taken-versions c.a_snapshots_number_stays.ensures.given;
  kind = taken-kind c.a_snapshots_number_stays.ensures.given;
}
