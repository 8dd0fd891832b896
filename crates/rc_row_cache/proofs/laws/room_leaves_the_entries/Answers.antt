use Rattle.rc_row_cache.proofs.Entries.{evicted-leaves}
use Rattle.rc_row_cache.proofs.laws.room_leaves_the_entries.Goals as goal

pub returns : goal.returns
returns c =
    let use_of = c.evictions_leave_the_use_of_a_chain.ensures in
    let leaves = evicted-leaves c.each_change_leaves_the_caches_chains.ensures.several use_of.kind use_of.attached c.evictions_spare_memtables_and_readers.ensures.absent in record {
      evicted = leaves;
      room = λ S old new told r. leaves r.went r.gone old new told r.evicted;
    }
