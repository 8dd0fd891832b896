use Rattle.rc_core.specs.laws.Written.{row-written, range-written, statics-written, pt-written}
use Rattle.rc_core.proofs.laws.memtables.a_write_is_one_more.Goals as goal

pub returns : goal.returns
returns c = record { row = row-written; range = range-written; statics = statics-written; head = pt-written }
