use Rattle.std.proofs.Common.{arith}
use Rattle.rc_cache_tests.proofs.unstored.is_left.Goals as goal

pub drop_sealed-requires : goal.drop_sealed-requires
drop_sealed-requires c = let some = c.sealed_rows.ensures in (omega arith, (c.args.schema.now, some.0, some.1, some.2))
