use Rattle.rc_core.specs.laws.Updating.{begun}
use Rattle.rc_core.proofs.laws.updating.an_update_begins_with_a_new_version.Goals as goal

pub returns : goal.returns
returns c = begun
