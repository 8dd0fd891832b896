use Rattle.rc_core.specs.Chains.{phase_at, upto}
use Rattle.rc_chain.specs.laws.Numbered.{pinned-continuous}
use Rattle.rc_chain.proofs.laws.what_a_snapshot_knows_is_the_source.Goals as goal

pub returns : goal.returns
returns c = record {
  continuous = pinned-continuous;
  head = λ below p d j ch k on. (pinned-continuous below p d j ch k on).head tt;
  statics = λ below p d j ch k on. (pinned-continuous below p d j ch k on).statics tt;
  known = λ below p d j ch k on x known. (pinned-continuous below p d j ch k on).clustered x tt known.at;
  gap = λ below p d j ch k on x bound to tomb. c.a_known_part_is_the_source.ensures.gap (below (phase_at d.versions j)) (upto d.versions j) x bound to tomb (pinned-continuous below p d j ch k on);
  row = λ below p d j ch k on x bound key row tomb. c.a_known_part_is_the_source.ensures.row (below (phase_at d.versions j)) (upto d.versions j) x bound key row tomb (pinned-continuous below p d j ch k on);
}
