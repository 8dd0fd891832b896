use Rattle.rc_cache_tests.proofs.Left.{left-made}
use Rattle.rc_cache_tests.proofs.room.make_one.Goals as goal

pub returns : goal.returns
returns c = left-made _ _ _ _ _ _ _ c.in_ok-_id.ensures.made
