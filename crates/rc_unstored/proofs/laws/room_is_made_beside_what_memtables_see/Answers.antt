use Rattle.rc_unstored.proofs.Making.{made-seen}
use Rattle.rc_unstored.proofs.laws.room_is_made_beside_what_memtables_see.Goals as goal

pub returns : goal.returns
returns c = λ S old new rule made. made-seen c.evictions_spare_memtables_and_readers.ensures.memtable S old new rule made c.evictions_spare_memtables_and_readers.ensures.pinned c.evictions_leave_the_use_of_a_chain.ensures.pins
