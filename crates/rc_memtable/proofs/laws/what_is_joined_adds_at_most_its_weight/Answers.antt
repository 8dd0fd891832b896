use Rattle.rc_memtable.proofs.Grown.{range-bytes, row-bytes, statics-bytes}
use Rattle.rc_memtable.proofs.laws.what_is_joined_adds_at_most_its_weight.Goals as goal

pub returns : goal.returns
returns c = record { row = row-bytes; range = range-bytes; statics = statics-bytes }
