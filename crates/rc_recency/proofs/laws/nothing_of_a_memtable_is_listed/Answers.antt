use Rattle.rc_recency.specs.laws.Placed.{off-memtable}
use Rattle.rc_recency.proofs.laws.nothing_of_a_memtable_is_listed.Goals as goal

pub returns : goal.returns
returns c = λ m id j at k rule there. off-memtable m id j at k rule there
