use Rattle.rc_cache_tests.proofs.Written.{before-end}
use Rattle.rc_cache_tests.proofs.filler.is_row.Goals as goal

pub first_from-requires-clause-ahead : goal.first_from-requires-clause-ahead
first_from-requires-clause-ahead c = before-end _
