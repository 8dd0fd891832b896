use Rattle.rc_filler.proofs.Continued.{done-continuous}
use Rattle.rc_filler.proofs.Evicting.{EvictionLaws}
use Rattle.rc_filler.proofs.laws.a_filled_chain_stays_continuous.Goals as goal

pub returns : goal.returns
returns c =
    let use_of = c.evictions_leave_the_use_of_a_chain.ensures in
    let laws : EvictionLaws = record {
      kind = use_of.kind;
      attached = use_of.attached;
      updating = use_of.updating;
      pins = use_of.pins;
      passed = use_of.passed;
      count = use_of.count;
      phases = use_of.phases;
      pinned = c.evictions_spare_memtables_and_readers.ensures.pinned;
      form = c.what_was_evicted_is_seen_as_before_or_lost.ensures.form;
      continuous = c.evictions_keep_the_whole_chain.ensures.chain;
      place = c.evictions_keep_the_whole_chain.ensures.place;
    } in
    let fill = c.a_fill_changes_the_newest_version_alone.ensures in
    λ S below f g m n p k now j rule did e there pinned ch off on stands.
    done-continuous laws fill.older fill.here c.what_a_snapshot_knows_is_the_source.ensures.continuous S below p f.chain f.pin m n rule k now j e there pinned ch off on stands did.done
