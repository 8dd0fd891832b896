use Rattle.rc_filler.proofs.Crowding.{came-loses}
use Rattle.rc_filler.proofs.Coming.{came-answers, came-done, came-keeps, came-known, came-may, came-stands, came-there}
use Rattle.rc_filler.proofs.Filling.{FillLaws}
use Rattle.rc_filler.proofs.laws.what_came_of_a_fill.Goals as goal

pub returns : goal.returns
returns c =
    let gap = c.a_filled_gap_keeps_what_is_said.ensures in
    let row = c.a_filled_row_keeps_what_is_said.ensures in
    let statics = c.a_filled_static_row_keeps_what_is_said.ensures in
    let room = c.room_leaves_a_snapshot.ensures in
    let source = c.what_a_snapshot_knows_is_the_source.ensures.continuous in
    let none = c.evictions_spare_memtables_and_readers.ensures.none in
    let laws : FillLaws = record {
      here = c.a_fill_changes_the_newest_version_alone.ensures.here;
      given_is = c.what_the_source_says_may_be_filled.ensures.given;
      gap_form = gap.form;
      gap_chain = gap.chain;
      gap_known = λ d j from to tomb x may ch inside. gap.known d j from to tomb x may ch.versions inside;
      gap_kept = gap.kept;
      row_form = row.form;
      row_chain = row.chain;
      row_known = row.known;
      row_kept = row.kept;
      statics_form = statics.form;
      statics_chain = statics.chain;
      statics_known = statics.known;
      statics_kept = statics.kept;
    } in record {
      answers = λ S f portion fill m n range came. came-answers S f.chain f.pin portion fill m n range came;
      known = came-known room.there room.may room.stands laws source none;
      keeps = came-keeps room.there room.may room.stands laws source none;
      stands = λ S f portion fill m n writes rule came s said. came-stands room.there room.may room.stands laws S f.chain f.pin portion fill m n writes rule came s said;
      sound = c.a_snapshot_knows_the_writes_it_stands_for.ensures.there;
      may = came-may room.there room.may room.stands laws;
      there = came-there room.there room.may room.stands laws;
      done = came-done;
      loses = came-loses;
    }
