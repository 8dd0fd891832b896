use Rattle.rc_ranges.specs.laws.Determined.{determined}
use Rattle.rc_ranges.proofs.laws.canonical_lists_are_determined.Goals as goal

pub returns : goal.returns
returns c = determined
