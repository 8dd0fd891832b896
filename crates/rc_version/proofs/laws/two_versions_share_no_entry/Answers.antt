use Rattle.rc_version.specs.laws.Staying.{versions-apart}
use Rattle.rc_version.proofs.laws.two_versions_share_no_entry.Goals as goal

pub returns : goal.returns
returns c = λ v m n refs others d k r well ne h j a b. versions-apart v well m n ne refs others h.tree j.tree r a b
