use Rattle.rc_units.proofs.Cleaned.{as_before-known}
use Rattle.rc_units.proofs.laws.chaining.what_is_known_as_before_was_known.Goals as goal

pub returns : goal.returns
returns c = as_before-known
