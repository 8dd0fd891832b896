use Rattle.rc_row_cache.proofs.Going.{detached-counts, let-go-counts}
use Rattle.rc_row_cache.proofs.footprint.what_is_let_go_counts_nothing.Goals as goal

pub returns : goal.returns
returns c = record { let_go = λ S schema u new writes later ascend h. let-go-counts schema u.sealed u.chains new writes ascend h.sealed; detached = detached-counts }
