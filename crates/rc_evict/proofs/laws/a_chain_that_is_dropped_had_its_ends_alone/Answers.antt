use Rattle.rc_evict.proofs.Dropped.{dropped-loses}
use Rattle.rc_evict.proofs.laws.a_chain_that_is_dropped_had_its_ends_alone.Goals as goal

pub returns : goal.returns
returns c = dropped-loses
