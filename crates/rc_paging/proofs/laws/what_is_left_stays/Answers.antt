-- The snapshots stand for what they stood for.
use Rattle.rc_paging.proofs.Served.{stand_over}
use Rattle.rc_paging.proofs.laws.what_is_left_stays.Goals as goal

pub returns-clause-stand : goal.returns-clause-stand
returns-clause-stand c = λ S held m n below writes later cached still stand. stand_over S held m n below writes later c.a_snapshot_sees_what_it_saw.ensures.all_changes cached still stand

pub returns-clause-lines : goal.returns-clause-lines
returns-clause-lines c = λ S o m n below lines cached still l. record {
  schema = l.schema;
  writes = l.writes;
  later = l.later;
  of_tables = l.of_tables;
  of_sealed = l.of_sealed;
  of_active = l.of_active;
  stand = stand_over S o.held m n below l.writes l.later c.a_snapshot_sees_what_it_saw.ensures.all_changes cached still l.stand;
  placed = l.placed;
  are = l.are;
  told = l.told;
}
