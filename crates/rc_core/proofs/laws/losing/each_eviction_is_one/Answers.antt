use Rattle.rc_core.specs.laws.Losing.{entry-evicted, end-evicted, statics-evicted}
use Rattle.rc_core.proofs.laws.losing.each_eviction_is_one.Goals as goal

pub returns : goal.returns
returns c = record { entry = entry-evicted; end_dummy = end-evicted; statics = statics-evicted }
