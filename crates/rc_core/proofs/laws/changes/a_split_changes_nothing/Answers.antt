use Rattle.rc_core.specs.laws.Spots.{split-seen}
use Rattle.rc_core.proofs.laws.changes.a_split_changes_nothing.Goals as goal

pub returns : goal.returns
returns c = split-seen
