use Rattle.rc_row_cache.proofs.Weighed.{live-of-both}
use Rattle.rc_row_cache.proofs.footprint.what_is_live_is_of_both.Goals as goal

pub returns : goal.returns
returns c = live-of-both
