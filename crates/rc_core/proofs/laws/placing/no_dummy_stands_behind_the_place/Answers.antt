use Rattle.rc_core.specs.laws.Placed.{none-behind}
use Rattle.rc_core.proofs.laws.placing.no_dummy_stands_behind_the_place.Goals as goal

pub returns : goal.returns
returns c = none-behind
