use Rattle.rc_row_cache.proofs.Bare.{little-left}
use Rattle.rc_row_cache.proofs.footprint.little_is_left_where_nothing_may_be_evicted.Goals as goal

pub returns : goal.returns
returns c = λ m rule versions one settled used none. little-left m rule versions settled none one used
