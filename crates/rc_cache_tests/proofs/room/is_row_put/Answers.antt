-- Nothing was written yet.
use Rattle.std.proofs.Common.{[]}
use Rattle.rc_cache_tests.proofs.room.is_row_put.Goals as goal

pub is_put_beside_caches-requires : goal.is_put_beside_caches-requires
is_put_beside_caches-requires c = ([], [], c.requires c.in-Ok.schema)
