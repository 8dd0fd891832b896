use Rattle.rc_unstored.specs.Readers.{taken_back}
use Rattle.rc_row_cache.proofs.Alike.{InvalidationLaws, alike-back, alike-before, alike-detached, alike-invalidated, alike-leaves, alike-taken}
use Rattle.rc_row_cache.proofs.Bare.{one-settled}
use Rattle.rc_row_cache.proofs.Cached.{enter-refused-leaves, entered-leaves, fills-leave, kept-out-leaves}
use Rattle.rc_row_cache.proofs.Calls.{dropped-leaves, made-leaves}
use Rattle.rc_row_cache.proofs.Leaving.{UseLaws, leaves-evicted, leaves-one, leaves-same}
use Rattle.rc_row_cache.proofs.footprint.each_chain_of_the_cache_has_one_version.Goals as goal

pub returns : goal.returns
returns c =
    let use_of = c.evictions_leave_the_use_of_a_chain.ensures in
    let left = c.what_an_invalidation_leaves.ensures in
    let uses : UseLaws = record { kind = use_of.kind; count = use_of.count } in
    let phases : InvalidationLaws = record { readers = left.readers; none = left.none } in
    record {
      none = λ m none id k e cached. absurd (none id k e cached);
      moved = λ old new h. leaves-one old new (leaves-same old new h.chains);
      evicted = λ went gone old new a. leaves-one old new (leaves-evicted uses went gone old new a);
      made = λ S old new r. leaves-one old new (made-leaves uses S old new r);
      beside = λ old new same one id k e cached. one id k (same.none id k cached e) cached;
      made_beside = λ S old new b one id k e cached. leaves-one old b.mid (made-leaves uses S old b.mid b.room) one id k (b.same.none id k cached e) cached;
      taken = λ id pin phase old new t. leaves-one old new (alike-leaves old new (alike-taken id pin phase old new t));
      back = λ s m. leaves-one m (taken_back s m) (alike-leaves m (taken_back s m) (alike-back s.chain s.pin m));
      entered = λ S key pt statics phase entries old new s e. leaves-one old new (entered-leaves uses S key pt statics phase entries old new s e);
      kept_out = λ S old new out. leaves-one old new (kept-out-leaves uses S old new out);
      enter_refused = λ S pt statics phase old new r. leaves-one old new (enter-refused-leaves uses S pt statics phase old new r);
      filled = λ S id pin old new f. leaves-one old new (fills-leave uses S id pin old new f);
      detached = λ id old new d. leaves-one old new (alike-leaves old new (alike-detached id old new d));
      invalidated = λ ids phase old new h. leaves-one old new (alike-leaves old new (alike-invalidated phases ids phase old new h));
      gone = λ id list old new d. leaves-one old new (dropped-leaves id list old new d);
      before = λ old new b. leaves-one old new (alike-leaves old new (alike-before old new b));
      settled = one-settled;
    }
