use Rattle.rc_row_cache.proofs.Cache.{there-stands}
use Rattle.rc_row_cache.proofs.Snapshots.{SnapshotLaws, taken-there}
use Rattle.rc_row_cache.proofs.laws.a_snapshot_stands_for_what_lies_below.Goals as goal

pub returns : goal.returns
returns c =
    let more = c.one_more_snapshot_keeps_what_is_said.ensures in
    let laws : SnapshotLaws = record { free = more.free; given_at = more.given; others = more.others; chain = more.chain; form = more.form } in record {
      there = λ S schema below m id pin h writes limits small fit says same. there-stands schema below S m id pin h writes limits small fit says same;
      taken = λ id pin phase old new k e cached taken. taken-there laws id pin phase old new taken k e cached;
    }
