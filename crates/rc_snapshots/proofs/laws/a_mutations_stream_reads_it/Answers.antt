use Rattle.rc_snapshots.proofs.Seen.{pt-is, reads-it, statics-are}
use Rattle.rc_snapshots.proofs.laws.a_mutations_stream_reads_it.Goals as goal

pub returns : goal.returns
returns c = record {
  reads = λ schema m is fits. reads-it m is (c.the_stream_of_a_mutation.ensures.whole m is) (c.the_stream_of_a_mutation.ensures.fragments m is) schema fits;
  pt = λ m is. pt-is m is (c.the_stream_of_a_mutation.ensures.whole m is) (c.the_stream_of_a_mutation.ensures.fragments m is);
  statics = λ m is. statics-are m is (c.the_stream_of_a_mutation.ensures.whole m is) (c.the_stream_of_a_mutation.ensures.fragments m is);
}
