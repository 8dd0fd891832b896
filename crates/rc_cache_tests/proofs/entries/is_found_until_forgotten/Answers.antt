use Rattle.rc_cache_tests.proofs.Bare.{opened-free}
use Rattle.rc_cache_tests.proofs.entries.is_found_until_forgotten.Goals as goal

pub drop_bare-requires : goal.drop_bare-requires
drop_bare-requires c = opened-free _ _ _ c.in_ok-id.ensures
