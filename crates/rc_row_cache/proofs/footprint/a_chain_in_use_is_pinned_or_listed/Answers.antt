use Rattle.rc_row_cache.proofs.Used.{in-use-by, in-use-is}
use Rattle.rc_row_cache.proofs.footprint.a_chain_in_use_is_pinned_or_listed.Goals as goal

pub returns : goal.returns
returns c = record { is = in-use-is; by = in-use-by }
