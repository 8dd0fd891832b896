use Rattle.rc_row_cache.proofs.Cache.{back-says, detached-says, dropped-says, evicted-says, opened-says, same-says}
use Rattle.rc_row_cache.proofs.Filling.{ChainLaws}
use Rattle.rc_row_cache.proofs.Memtables.{as-before-says}
use Rattle.rc_row_cache.proofs.Phases.{PhaseLaws, alike-says}
use Rattle.rc_row_cache.proofs.Snapshots.{ReleaseLaws, SnapshotLaws, released-says, taken-says}
use Rattle.rc_row_cache.proofs.laws.the_cache_says_what_lies_below.Goals as goal

pub returns : goal.returns
returns c =
    let more = c.one_more_snapshot_keeps_what_is_said.ensures in
    let less = c.one_snapshot_less_keeps_what_is_said.ensures in
    let use_of = c.evictions_leave_the_use_of_a_chain.ensures in
    let gone = c.a_chain_no_longer_found_keeps_what_is_said.ensures in
    let phased = c.a_relabelled_chain_keeps_what_is_said.ensures in
    let left = c.what_an_invalidation_leaves.ensures in
    let opened = c.an_opened_chain_says_what_is_handed_in.ensures in
    let returning : ReleaseLaws = record { kept = less.kept; less_chain = less.chain; less_form = less.form } in
    let taking : SnapshotLaws = record { free = more.free; given_at = more.given; others = more.others; chain = more.chain; form = more.form } in
    let phases : PhaseLaws = record { chain = phased.chain; form = phased.form; alike = phased.below; detached_chain = gone.chain; detached_form = gone.form; gone = left.gone; others = left.others; none = left.none } in
    let chains : ChainLaws = record {
      lost = c.an_evicted_object_leaves_a_version.ensures.lost;
      phase = c.an_evicted_object_leaves_a_version.ensures.phase;
      form = c.what_was_evicted_is_seen_as_before_or_lost.ensures.form;
      updating = use_of.updating;
      count = use_of.count;
      gap_form = c.a_filled_gap_keeps_what_is_said.ensures.form;
      row_form = c.a_filled_row_keeps_what_is_said.ensures.form;
      statics_form = c.a_filled_static_row_keeps_what_is_said.ensures.form;
    } in record {
      none = λ schema below m none id k e kind. absurd (none id k e kind);
      same = same-says;
      evicted = λ schema below. evicted-says schema below chains use_of.kind;
      room = λ schema below S old new r. evicted-says schema below chains use_of.kind r.went r.gone old new r.evicted;
      taken = λ schema below id pin phase old new sound taken. taken-says taking id pin phase old new taken schema below sound;
      released = λ schema below id pin m. released-says returning id pin m schema below;
      detached = λ schema below. detached-says schema below gone.chain gone.form;
      dropped = dropped-says;
      beside = λ schema below old new same. back-says schema below old new same.none;
      before = as-before-says;
      alike = alike-says phases;
      opened = λ schema below. opened-says schema below opened.chain opened.form c.what_the_source_says_may_be_filled.ensures.given;
    }
