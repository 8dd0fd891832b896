use Rattle.rc_row_cache.proofs.Alike.{InvalidationLaws}
use Rattle.rc_row_cache.proofs.Pinned.{PinLaws, snapshots-back, snapshots-before, snapshots-beside, snapshots-detached, snapshots-dropped, snapshots-enter-refused, snapshots-entered, snapshots-evicted, snapshots-filled, snapshots-given-back, snapshots-invalidated, snapshots-kept-out, snapshots-made, snapshots-made-beside, snapshots-same, snapshots-taken}
use Rattle.rc_row_cache.proofs.footprint.what_calls_leave_of_snapshots.Goals as goal

pub returns : goal.returns
returns c =
    let use_of = c.evictions_leave_the_use_of_a_chain.ensures in
    let left = c.what_an_invalidation_leaves.ensures in
    let spares = c.calls_on_memtables_leave_the_cache.ensures in
    let laws : PinLaws = record { kind = use_of.kind; pins = use_of.pins } in
    let phases : InvalidationLaws = record { readers = left.readers; none = left.none } in
    record {
      moved = λ old new h. snapshots-same old new h.chains;
      evicted = λ went gone old new a. snapshots-evicted laws went gone old new a;
      made = λ S old new r. snapshots-made laws S old new r;
      beside = snapshots-beside;
      made_beside = λ S old new b. snapshots-made-beside laws S old new b;
      put = λ S schema w old new writes later rule h p. snapshots-made-beside laws S old.chains new.chains (spares.put S schema w old new writes later rule h p);
      not_put = λ S old new p. snapshots-made-beside laws S old.chains new.chains (spares.not_put S old new p);
      refused = λ S old new p. snapshots-made-beside laws S old.chains new.chains (spares.refused S old new p);
      taken = snapshots-taken;
      back = snapshots-back;
      one_less = snapshots-given-back;
      released = λ s old new there h. snapshots-beside old new (spares.released s old new there h);
      let_go = λ S schema u new writes later ascend h gone. snapshots-beside u.chains new (spares.let_go S schema u new writes later ascend h gone);
      entered = λ S. snapshots-entered laws S;
      kept_out = λ S. snapshots-kept-out laws S;
      enter_refused = λ S. snapshots-enter-refused laws S;
      filled = λ S. snapshots-filled laws S;
      detached = snapshots-detached;
      invalidated = λ ids phase old new h. snapshots-invalidated phases ids phase old new h;
      gone = snapshots-dropped;
      before = snapshots-before;
    }
