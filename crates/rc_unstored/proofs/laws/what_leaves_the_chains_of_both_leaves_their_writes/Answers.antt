use Rattle.std.proofs.Common.{refl}
use Rattle.rc_unstored.proofs.Keeping.{both-beside, both-moved}
use Rattle.rc_unstored.proofs.Making.{both-made}
use Rattle.rc_unstored.proofs.laws.what_leaves_the_chains_of_both_leaves_their_writes.Goals as goal

pub returns : goal.returns
returns c = record {
  moved = λ S schema u m writes later h. both-moved schema u m writes later h.chains;
  made = λ S schema u m writes later rule made h. both-made c.evictions_spare_memtables_and_readers.ensures.memtable S u.chains m rule made schema u refl writes later h;
  beside = λ S schema u m writes later sealed active h. both-beside schema u m writes later sealed active h;
  alike = λ S schema u writes later others more named said also says h. record {
    sealed = c.what_leaves_a_memtables_chains_leaves_its_writes.ensures.alike schema u.sealed u.chains writes others named said h.sealed;
    active = c.what_leaves_a_memtables_chains_leaves_its_writes.ensures.alike schema u.active u.chains later more also says h.active;
    apart = h.apart;
  };
}
