use Rattle.rc_core.specs.laws.Surgery.{split-in-gap, split-at-entry}
use Rattle.rc_core.proofs.laws.surgery.a_split_makes_a_dummy_in_a_gap.Goals as goal

pub returns : goal.returns
returns c = record { gap = split-in-gap; entry = split-at-entry }
