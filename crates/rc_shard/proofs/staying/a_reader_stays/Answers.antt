-- It is what the laws of open readers and of the row cache say.
use Rattle.rc_shard.proofs.staying.a_reader_stays.Goals as goal

pub returns : goal.returns
returns c = record {
  left = c.what_is_left_to_a_reader_stays.ensures;
  stand = λ held m n below writes later. c.what_is_left_stays.ensures.stand 131072 held m n below writes later;
  below = λ schema below m id pin h writes. c.a_snapshot_stands_for_what_lies_below.ensures.there 131072 schema below m id pin h writes;
}
