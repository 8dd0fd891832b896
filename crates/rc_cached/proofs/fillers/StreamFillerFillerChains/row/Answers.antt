use Rattle.std.proofs.Common.{arith}
use Rattle.rc_cached.proofs.fillers.StreamFillerFillerChains.row.Goals as goal

pub returns-clause-did : goal.returns-clause-did
returns-clause-did g c =
    let source = c.requires.source in
    let fill = c.row.ensures.did in
    let counts = c.a_fill_takes_no_segment.ensures.counts _ _ _ _ _ fill c.counts_in_range.ensures.evicted c.counts_in_range.ensures.skipped in
    record {
      fill = fill;
      rule = c.known.ensures.rule;
      lost = omega (arith, counts.0, counts.1);
      static_row = c.a_fill_keeps_the_static_row_known.ensures.known _ _ _ _ _ fill c.counts_in_range.ensures.evicted c.counts_in_range.ensures.skipped;
      writes = source.0;
      before = source.1;
      after = c.row.ensures.stands source.0 source.1 source.2;
    }
