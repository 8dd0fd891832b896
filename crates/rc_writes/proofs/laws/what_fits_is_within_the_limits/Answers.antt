-- The law is a lemma.
use Rattle.rc_writes.specs.laws.Within.{change-within}
use Rattle.rc_writes.proofs.laws.what_fits_is_within_the_limits.Goals as goal

pub returns : goal.returns
returns c = change-within
