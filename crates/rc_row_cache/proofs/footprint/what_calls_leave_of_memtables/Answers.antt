use Rattle.std.proofs.Common.{ap}
use Rattle.rc_core.specs.declared.entries.ChainKind.TheVariants.{Memtable}
use Rattle.rc_memory.specs.Memory.{Memory}
use Rattle.rc_unstored.specs.Readers.{taken_back}
use Rattle.rc_row_cache.proofs.Alike.{InvalidationLaws, alike-back, alike-before, alike-bytes, alike-detached, alike-invalidated, alike-taken}
use Rattle.rc_row_cache.proofs.Cached.{enter-refused-leaves, entered-leaves, fills-leave, kept-out-leaves}
use Rattle.rc_row_cache.proofs.Calls.{dropped-leaves, made-leaves, released-leaves}
use Rattle.rc_row_cache.proofs.Going.{let-go-leaves}
use Rattle.rc_row_cache.proofs.Leaving.{UseLaws, leaves-evicted, leaves-less, leaves-same, leaves-then}
use Rattle.rc_row_cache.proofs.footprint.what_calls_leave_of_memtables.Goals as goal

pub returns : goal.returns
returns c =
    let use_of = c.evictions_leave_the_use_of_a_chain.ensures in
    let left = c.what_an_invalidation_leaves.ensures in
    let uses : UseLaws = record { kind = use_of.kind; count = use_of.count } in
    let phases : InvalidationLaws = record { readers = left.readers; none = left.none } in
    record {
      moved = λ old new h. leaves-less old new (leaves-same old new h.chains);
      evicted = λ went gone old new a. leaves-less old new (leaves-evicted uses went gone old new a);
      made = λ S old new r. leaves-less old new (made-leaves uses S old new r);
      not_put = λ S old new p. leaves-less old.chains new.chains (made-leaves uses S old.chains new.chains p.room);
      refused = λ S old new p. leaves-less old.chains new.chains (leaves-then old.chains p.mid new.chains (made-leaves uses S old.chains p.mid p.room) (leaves-same p.mid new.chains (ap (λ (m : Memory). m.chains) p.slots.same)));
      taken = λ id pin phase old new t. alike-bytes old new (alike-taken id pin phase old new t) Memtable;
      taken_of = λ key entries old new s t. alike-bytes old new (alike-taken s.chain s.pin s.phase old new t.taken) Memtable;
      back = λ s m. alike-bytes m (taken_back s m) (alike-back s.chain s.pin m) Memtable;
      released = λ s old new pin h. leaves-less old new (released-leaves s old new h pin);
      let_go = λ S schema u new writes later ascend h gone. leaves-less u.chains new (let-go-leaves schema u.sealed u.chains new writes ascend h.sealed gone);
      entered = λ S key pt statics phase entries old new s e. leaves-less old new (entered-leaves uses S key pt statics phase entries old new s e);
      kept_out = λ S old new out. leaves-less old new (kept-out-leaves uses S old new out);
      enter_refused = λ S pt statics phase old new r. leaves-less old new (enter-refused-leaves uses S pt statics phase old new r);
      filled = λ S id pin old new f. leaves-less old new (fills-leave uses S id pin old new f);
      detached = λ id old new d. alike-bytes old new (alike-detached id old new d) Memtable;
      invalidated = λ ids phase old new h. alike-bytes old new (alike-invalidated phases ids phase old new h) Memtable;
      gone = λ id list old new d. leaves-less old new (dropped-leaves id list old new d);
      before = λ old new b. alike-bytes old new (alike-before old new b) Memtable;
    }
