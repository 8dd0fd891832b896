use Rattle.rc_core.specs.laws.Merging.{update-flagged, update-content}
use Rattle.rc_core.proofs.laws.merging.an_update_joins_its_mutation.Goals as goal

pub returns : goal.returns
returns c = record { flagged = update-flagged; content = update-content }
