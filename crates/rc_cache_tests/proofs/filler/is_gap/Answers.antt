use Rattle.std.proofs.Common.{sym, subst}
use Rattle.rc_position.specs.Position.{IsBefore}
use Rattle.rc_core.specs.Version.{end_position}
use Rattle.rc_cache_tests.proofs.Written.{whole-ahead}
use Rattle.rc_cache_tests.proofs.filler.is_gap.Goals as goal

pub first_from-requires-clause-ahead : goal.first_from-requires-clause-ahead
first_from-requires-clause-ahead c = subst (λ x. IsBefore x end_position) (sym c.bare-from.ensures) whole-ahead
