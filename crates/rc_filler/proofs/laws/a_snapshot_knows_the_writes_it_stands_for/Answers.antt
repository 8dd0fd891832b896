use Rattle.rc_filler.proofs.Seen.{head-said, knows-said, read-there, statics-said}
use Rattle.rc_filler.proofs.laws.a_snapshot_knows_the_writes_it_stands_for.Goals as goal

pub returns : goal.returns
returns c = let source = c.what_a_snapshot_knows_is_the_source.ensures.continuous in record {
  there = knows-said source;
  statics = statics-said source;
  head = head-said source;
  readable = read-there c.a_snapshot_can_be_read.ensures.cache;
}
