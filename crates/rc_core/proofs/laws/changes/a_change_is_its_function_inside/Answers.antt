use Rattle.rc_core.specs.laws.Spots.{change-seen}
use Rattle.rc_core.proofs.laws.changes.a_change_is_its_function_inside.Goals as goal

pub returns : goal.returns
returns c = change-seen
