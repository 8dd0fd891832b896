use Rattle.rc_core.specs.laws.Surgery.{version-at}
use Rattle.rc_core.proofs.laws.surgery.one_version_is_changed.Goals as goal

pub returns : goal.returns
returns c = version-at
