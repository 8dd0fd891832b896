use Rattle.rc_core.specs.Chain.{states_at}
use Rattle.rc_core.specs.Chains.{upto}
use Rattle.rc_core.specs.Continuity.{static_states}
use Rattle.rc_chain.proofs.laws.what_a_snapshot_sees_is_the_fold.Goals as goal

pub returns : goal.returns
returns c = record {
  flag = λ d j s. c.the_fold_is_what_is_seen.ensures.flag d.kind (states_at s (upto d.versions j));
  content = λ d j s. c.the_fold_is_what_is_seen.ensures.content (states_at s (upto d.versions j));
  static_flag = λ d j. c.the_fold_is_what_is_seen.ensures.flag d.kind (static_states (upto d.versions j));
  static_content = λ d j. c.the_fold_is_what_is_seen.ensures.content (static_states (upto d.versions j));
  decides = λ d j i s. c.the_base_is_the_newest_that_decides.ensures.found (states_at s (upto d.versions j)) i;
  newest = λ d j i k s. c.the_base_is_the_newest_that_decides.ensures.newest (states_at s (upto d.versions j)) i k;
  none = λ d j k s. c.the_base_is_the_newest_that_decides.ensures.none (states_at s (upto d.versions j)) k;
}
