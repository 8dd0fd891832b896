-- Nothing was written yet.
use Rattle.std.proofs.Common.{[]}
use Rattle.rc_cache_tests.proofs.unstored.are_sizes_of_rows.Goals as goal

pub are_sizes-requires : goal.are_sizes-requires
are_sizes-requires c = ([], [], c.requires c.in-Ok.schema)
