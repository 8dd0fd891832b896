use Rattle.rc_filler.proofs.Evicting.{EvictionLaws, room-may, room-stands, room-there}
use Rattle.rc_filler.proofs.laws.room_leaves_a_snapshot.Goals as goal

pub returns : goal.returns
returns c =
    let use_of = c.evictions_leave_the_use_of_a_chain.ensures in
    let laws : EvictionLaws = record {
      kind = use_of.kind;
      attached = use_of.attached;
      updating = use_of.updating;
      pins = use_of.pins;
      passed = use_of.passed;
      count = use_of.count;
      phases = use_of.phases;
      pinned = c.evictions_spare_memtables_and_readers.ensures.pinned;
      form = c.what_was_evicted_is_seen_as_before_or_lost.ensures.form;
      continuous = c.evictions_keep_the_whole_chain.ensures.chain;
      place = c.evictions_keep_the_whole_chain.ensures.place;
    } in record {
      there = λ S old new id pin r h. room-there laws S old new r id pin h;
      may = λ S old new id pin r h. room-may laws S old new r id pin h;
      stands = λ S old new id pin writes rule r s. room-stands laws S old new r id pin writes rule s;
    }
