use Rattle.rc_row_cache.proofs.Spared.{SparingLaws, entered-spared, fill-spared, kept-out-spared, made-spared, spared-bytes}
use Rattle.rc_row_cache.proofs.footprint.room_is_made_of_the_cache_alone.Goals as goal

pub returns : goal.returns
returns c =
    let spares = c.evictions_spare_memtables_and_readers.ensures in
    let laws : SparingLaws = record { kind = c.evictions_leave_the_use_of_a_chain.ensures.kind; memtable = spares.memtable; absent = spares.absent } in
    record {
      made = λ S old new rule r. spared-bytes old new (made-spared laws S old new rule r);
      entered = λ S key pt statics phase entries old new s rule e. spared-bytes old new (entered-spared laws S key pt statics phase entries old new s rule e);
      kept_out = λ S old new rule out. spared-bytes old new (kept-out-spared laws S old new rule out);
      filled = λ S id pin old new rule f. spared-bytes old new (fill-spared laws S id pin old new rule f);
    }
