use Rattle.rc_units.proofs.Silent.{nothing-under, nothing-before, nothing-between, nothing-behind}
use Rattle.rc_units.proofs.laws.cleaning.a_gap_that_says_nothing_changes_nothing.Goals as goal

pub returns : goal.returns
returns c = record { spot = nothing-under; before = nothing-before; between = nothing-between; behind = nothing-behind }
