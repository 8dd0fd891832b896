use Rattle.rc_ranges.specs.laws.Determined.{join-same}
use Rattle.rc_ranges.proofs.laws.join_is_idempotent.Goals as goal

pub returns : goal.returns
returns c = join-same
