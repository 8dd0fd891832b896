use Rattle.rc_row_cache.proofs.Fills.{EvictionLaws, evicted-pins, fills-pin, pins-then}
use Rattle.rc_row_cache.proofs.Cache.{detached-pins, opened-pins, pins-same}
use Rattle.rc_row_cache.proofs.Memtables.{as-before-pins}
use Rattle.rc_row_cache.proofs.Phases.{PhaseLaws, invalidated-pins}
use Rattle.rc_row_cache.proofs.Snapshots.{ReleaseLaws, SnapshotLaws, dropped-pins, released-pins, taken-pins}
use Rattle.rc_row_cache.proofs.laws.each_snapshot_pins_what_it_pinned.Goals as goal

pub returns : goal.returns
returns c =
    let more = c.one_more_snapshot_keeps_what_is_said.ensures in
    let less = c.one_snapshot_less_keeps_what_is_said.ensures in
    let use_of = c.evictions_leave_the_use_of_a_chain.ensures in
    let gone = c.a_chain_no_longer_found_keeps_what_is_said.ensures in
    let phased = c.a_relabelled_chain_keeps_what_is_said.ensures in
    let left = c.what_an_invalidation_leaves.ensures in
    let returning : ReleaseLaws = record { kept = less.kept; less_chain = less.chain; less_form = less.form } in
    let taking : SnapshotLaws = record { free = more.free; given_at = more.given; others = more.others; chain = more.chain; form = more.form } in
    let phases : PhaseLaws = record { chain = phased.chain; form = phased.form; alike = phased.below; detached_chain = gone.chain; detached_form = gone.form; gone = left.gone; others = left.others; none = left.none } in
    let evictions : EvictionLaws = record { kind = use_of.kind; pins = use_of.pins; phases = use_of.phases; pinned = c.evictions_spare_memtables_and_readers.ensures.pinned } in record {
      evicted = evicted-pins evictions;
      room = λ below id pin S old new r. evicted-pins evictions below id pin r.went r.gone old new r.evicted;
      filled = λ below id pin S chain of_pin old new d. fills-pin evictions below id pin S chain of_pin old new d;
      taken = λ below id pin chain of_pin phase old new taken. taken-pins taking chain of_pin phase old new taken below id pin;
      released = λ below id pin chain of_pin m apart. released-pins returning chain of_pin m below id pin apart;
      detached = λ below id pin chain old new d. detached-pins below id pin old new chain d;
      dropped = λ below id pin chain list old new d free. dropped-pins chain list old new d free below id pin;
      opened = λ below id pin chain phase pt statics writes old new o. opened-pins below id pin chain phase pt statics writes old new o;
      beside = λ below id pin old new same. pins-same below id pin old new (same.stays id);
      before = as-before-pins;
      invalidated = λ below id pin ids phase old new sound i since. invalidated-pins phases below ids phase old new sound i since id pin;
      both = pins-then;
    }
