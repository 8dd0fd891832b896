use Rattle.rc_core.specs.laws.Surgery.{change-over}
use Rattle.rc_core.proofs.laws.surgery.a_change_goes_from_one_entry_to_another.Goals as goal

pub returns : goal.returns
returns c = change-over
