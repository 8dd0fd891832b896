use Rattle.std.proofs.Common.{refl, arith}
use Rattle.rc_row_cache.proofs.Crowded.{write-loses}
use Rattle.rc_row_cache.proofs.Memtables.{same-itself}
use Rattle.rc_row_cache.proofs.Putting.{applied-beside}
use Rattle.rc_row_cache.proofs.Spared.{SparingLaws}
use Rattle.rc_row_cache.proofs.footprint.a_write_evicts_where_memory_is_crowded.Goals as goal

pub returns : goal.returns
returns c =
    let spares = c.evictions_spare_memtables_and_readers.ensures in
    let laws : SparingLaws = record { kind = c.evictions_leave_the_use_of_a_chain.ensures.kind; memtable = spares.memtable; absent = spares.absent } in
    record {
      put = λ S schema w old new writes later p rule h. (
          let kept = (c.what_leaves_the_chains_of_both_leaves_their_writes.ensures.made S schema old p.mid writes later rule p.room h).active in
          write-loses laws S old.chains p.mid new.chains p.room rule p.applied.shrinks (applied-beside S schema w old.active new.active p.mid new.chains later kept p.applied) p.applied.others.region.budget p.applied.others.counts);
      not_put = λ S old new n rule. write-loses laws S old.chains new.chains new.chains n.room rule (omega arith) (same-itself new.chains) refl refl;
    }
