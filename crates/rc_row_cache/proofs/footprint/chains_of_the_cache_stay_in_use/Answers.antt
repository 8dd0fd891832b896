use Rattle.std.proofs.Common.{ap}
use Rattle.rc_memory.specs.Memory.{Memory}
use Rattle.rc_row_cache.proofs.Calls.{released-list}
use Rattle.rc_row_cache.proofs.Going.{let-go-list}
use Rattle.rc_row_cache.proofs.Putting.{applied-beside}
use Rattle.rc_row_cache.proofs.Used.{EvictionLaws, LeftLaws, used-before, used-beside, used-detached, used-dropped, used-evicted, used-invalidated, used-same, used-swept, used-taken}
use Rattle.rc_row_cache.proofs.Ways.{used-enter-refused, used-entered, used-fills, used-kept-out, used-made}
use Rattle.rc_row_cache.proofs.footprint.chains_of_the_cache_stay_in_use.Goals as goal

pub returns : goal.returns
returns c =
    let use_of = c.evictions_leave_the_use_of_a_chain.ensures in
    let left = c.what_an_invalidation_leaves.ensures in
    let spares = c.calls_on_memtables_leave_the_cache.ensures in
    let uses : EvictionLaws = record { kind = use_of.kind; updating = use_of.updating; pins = use_of.pins } in
    let phases : LeftLaws = record { gone = left.gone; others = left.others; none = left.none; recency = left.recency } in
    record {
      none = λ m none id k e idle. none id k e idle.cached;
      moved = λ old new h. used-same old new h.chains h.recency;
      evicted = λ went gone old new a. used-evicted uses went gone old new a;
      made = λ S old new r. used-made uses S old new r;
      beside = used-beside;
      put = λ S schema w old new writes later rule h p used. (
          let kept = (c.what_leaves_the_chains_of_both_leaves_their_writes.ensures.made S schema old p.mid writes later rule p.room h).active in
          used-beside p.mid new.chains (applied-beside S schema w old.active new.active p.mid new.chains later kept p.applied) p.applied.others.recency (used-made uses S old.chains p.mid p.room used));
      refused = λ S old new p used. used-same p.mid new.chains (ap (λ (m : Memory). m.chains) p.slots.same) (ap (λ (m : Memory). m.recency) p.slots.same) (used-made uses S old.chains p.mid p.room used);
      released = λ s old new there h. used-beside old new (spares.released s old new there h) (released-list s old new h there.pin);
      let_go = λ S schema u new writes later ascend h gone. used-beside u.chains new (spares.let_go S schema u new writes later ascend h gone) (let-go-list schema u.sealed u.chains new writes ascend h.sealed gone);
      before = used-before;
      taken = used-taken;
      entered = λ S. used-entered uses S;
      kept_out = λ S. used-kept-out uses S;
      enter_refused = λ S. used-enter-refused uses S;
      filled = λ S. used-fills uses S;
      detached = used-detached;
      invalidated = λ ids phase old new settled h. used-invalidated phases ids phase old new settled h;
      gone = used-dropped;
      swept = λ s old new k there dropped kept used. used-swept s.chain s.pin old new k there dropped kept used;
    }
